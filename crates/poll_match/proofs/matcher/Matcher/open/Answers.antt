use Rattle.std.proofs.Common.{◌≡◌, ◌∙◌, ap, None, rules, true}
use Rattle.std.specs.Result.{is_ok}
use Rattle.poll_match.specs.Window.{held}
use Rattle.poll_match.proofs.Places.{apart_opened, opens}
use Rattle.poll_match.proofs.matcher.Matcher.open.Goals as goal

pub invariant_of-self-2 : goal.invariant_of-self-2
invariant_of-self-2 c =
    let all = c.self.inside.connections.items in
    let good : is_ok c.push.result ≡ true = search rules in
    let items = rw (good, c.in-Ok.ensures) at c.push.ensures.items in
    let none : held c.args.conn all ≡ None = ap (held c.args.conn) c.self.view_is ∙ c.requires in
    rw items (apart_opened c.args.conn c.args.line all none c.self.invariant)

pub returns-clause-ok : goal.returns-clause-ok
returns-clause-ok c =
    let all = c.self.inside.connections.items in
    let good : is_ok c.push.result ≡ true = search rules in
    let items = rw (good, c.in-Ok.ensures) at c.push.ensures.items in
    let none : held c.args.conn all ≡ None = ap (held c.args.conn) c.self.view_is ∙ c.requires in
    rw (items, ← c.self.view_is) (opens c.args.conn c.args.line all none)
