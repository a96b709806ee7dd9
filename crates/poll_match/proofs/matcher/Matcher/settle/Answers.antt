use Rattle.std.proofs.Common.{◌≡◌, ◌∙◌, sym, ap, subst, Some, None, Option, rules}
use Rattle.poll_match.specs.Window.{Open, place, held, KeepsQuery, with_answer}
use Rattle.poll_match.proofs.Places.{apart_replaced, changes, held_at, not_held, replaced}
use Rattle.poll_match.proofs.matcher.Matcher.settle.Goals as goal

pub settle-requires : goal.settle-requires
settle-requires c =
    let all = c.self.inside.connections.items in
    let at : place c.args.conn all ≡ Some c.in-Some.place = search rules in
    let is : Some c.index_mut.result.now ≡ held c.args.conn c.args.self.now = ap Some c.index_mut.ensures.value ∙ sym (held_at c.args.conn all c.in-Some.place c.index_mut.result.now at).1 ∙ ap (held c.args.conn) c.self.view_is in
    let P : Option Open → Type 0 = λ o. KeepsQuery o c.args.number in
    subst P (sym is) c.requires

pub invariant_of-self : goal.invariant_of-self
invariant_of-self c =
    let all = c.self.inside.connections.items in
    let at : place c.args.conn all ≡ Some c.in-Some.place = search rules in
    apart_replaced c.args.conn all c.in-Some.place c.index_mut.result.now c.settle.new.self at c.index_mut.ensures.value (ap (λ (o : Open). o.number) c.settle.ensures) c.self.invariant

pub returns-in-Some : goal.returns-in-Some
returns-in-Some c =
    let all = c.self.inside.connections.items in
    let at : place c.args.conn all ≡ Some c.in-Some.place = search rules in
    let r = replaced c.args.conn all c.in-Some.place c.index_mut.result.now c.settle.new.self at c.index_mut.ensures.value (ap (λ (o : Open). o.number) c.settle.ensures) in
    rw (← c.self.view_is) (changes c.args.conn (with_answer c.args.number) all c.in-Some.place c.index_mut.result.now c.settle.new.self r (ap Some (sym c.settle.ensures)))

pub returns-in_default : goal.returns-in_default
returns-in_default c =
    let all = c.self.inside.connections.items in
    let at : place c.args.conn all ≡ None = search rules in
    let none = sym (ap (held c.args.conn) c.self.view_is) ∙ not_held c.args.conn all at in
    let P : Option Open → Type 0 = λ o. KeepsQuery o c.args.number in
    absurd (subst P none c.requires)
