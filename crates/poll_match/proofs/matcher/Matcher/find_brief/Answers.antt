use Rattle.std.proofs.Common.{◌≡◌, ◌∙◌, sym, ap, subst, refl, Some, None, Option, rules}
use Rattle.poll_match.specs.Briefs.{FindsBriefly}
use Rattle.poll_match.specs.Window.{Open, held, place}
use Rattle.poll_match.proofs.Places.{held_at, not_held}
use Rattle.poll_match.proofs.matcher.Matcher.find_brief.Goals as goal

pub returns-in-Some : goal.returns-in-Some
returns-in-Some c =
    let all = c.self.inside.connections.items in
    let at : place c.args.conn all ≡ Some c.in-Some.place = search rules in
    let is : Some c.index.result.now ≡ held c.args.conn c.args.self.now = ap Some c.index.ensures ∙ sym (held_at c.args.conn all c.in-Some.place c.index.result.now at).1 ∙ ap (held c.args.conn) c.self.view_is in
    subst (λ (o : Option Open). FindsBriefly o c.args.frame.now c.find_brief.result) is c.find_brief.ensures

pub returns-in-None : goal.returns-in-None
returns-in-None c =
    let all = c.self.inside.connections.items in
    let at : place c.args.conn all ≡ None = search rules in
    let none : held c.args.conn c.args.self.now ≡ None = sym (ap (held c.args.conn) c.self.view_is) ∙ not_held c.args.conn all at in
    rw none (refl, refl)
