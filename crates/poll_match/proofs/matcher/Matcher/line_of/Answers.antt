use Rattle.std.proofs.Common.{◌≡◌, ◌∙◌, sym, ap, Some, None, rules}
use Rattle.poll_match.specs.Window.{place, held, line_of}
use Rattle.poll_match.proofs.Places.{held_at, not_held}
use Rattle.poll_match.proofs.matcher.Matcher.line_of.Goals as goal

pub returns-in-Some : goal.returns-in-Some
returns-in-Some c =
    let all = c.self.inside.connections.items in
    let at : place c.args.conn all ≡ Some c.in-Some.place = search rules in
    let is : Some c.index.result.now ≡ held c.args.conn c.args.self.now = ap Some c.index.ensures ∙ sym (held_at c.args.conn all c.in-Some.place c.index.result.now at).1 ∙ ap (held c.args.conn) c.self.view_is in
    ap Some c.line.ensures ∙ ap line_of is

pub returns-in-None : goal.returns-in-None
returns-in-None c =
    let all = c.self.inside.connections.items in
    let at : place c.args.conn all ≡ None = search rules in
    sym (ap line_of (sym (ap (held c.args.conn) c.self.view_is) ∙ not_held c.args.conn all at))
