use Rattle.std.proofs.Common.{◌≡◌, ◌∙◌, sym, ap, subst, Some, None, Option, rules}
use Rattle.std.specs.Prelude.{IfErr, IfOk, OnOk}
use Rattle.std.proofs.lemmas.Result.{on_ok_weaker}
use Rattle.poll_match.specs.Window.{Open, place, held, IsNextFrame, next_refusal, with_query}
use Rattle.poll_match.proofs.Places.{apart_replaced, changes, held_at, not_held, replaced}
use Rattle.poll_match.proofs.matcher.Matcher.next_query.Goals as goal

pub invariant_of-self : goal.invariant_of-self
invariant_of-self c =
    let all = c.self.inside.connections.items in
    let at : place c.args.conn all ≡ Some c.in-Some.place = search rules in
    apart_replaced c.args.conn all c.in-Some.place c.index_mut.result.now c.next_query.new.self at c.index_mut.ensures.value c.next_query.ensures.number c.self.invariant

pub returns-in-Some-clause-frame : goal.returns-in-Some-clause-frame
returns-in-Some-clause-frame c =
    let all = c.self.inside.connections.items in
    let at : place c.args.conn all ≡ Some c.in-Some.place = search rules in
    let is : Some c.index_mut.result.now ≡ held c.args.conn c.args.self.now = ap Some c.index_mut.ensures.value ∙ sym (held_at c.args.conn all c.in-Some.place c.index_mut.result.now at).1 ∙ ap (held c.args.conn) c.self.view_is in
    subst (λ (o : Option Open). IfOk c.next_query.result (λ frame. IsNextFrame c.args.asked o frame)) is c.next_query.ensures.frame

pub returns-in-Some-clause-next : goal.returns-in-Some-clause-next
returns-in-Some-clause-next c =
    let all = c.self.inside.connections.items in
    let at : place c.args.conn all ≡ Some c.in-Some.place = search rules in
    let r = replaced c.args.conn all c.in-Some.place c.index_mut.result.now c.next_query.new.self at c.index_mut.ensures.value c.next_query.ensures.number in
    rw (← c.self.view_is) (on_ok_weaker c.next_query.result (λ q. changes c.args.conn (with_query c.args.asked) all c.in-Some.place c.index_mut.result.now c.next_query.new.self r (ap Some (sym q))) c.next_query.ensures.next)

pub returns-in-Some-clause-accepted : goal.returns-in-Some-clause-accepted
returns-in-Some-clause-accepted c =
    let all = c.self.inside.connections.items in
    let at : place c.args.conn all ≡ Some c.in-Some.place = search rules in
    let is : Some c.index_mut.result.now ≡ held c.args.conn c.args.self.now = ap Some c.index_mut.ensures.value ∙ sym (held_at c.args.conn all c.in-Some.place c.index_mut.result.now at).1 ∙ ap (held c.args.conn) c.self.view_is in
    subst (λ (o : Option Open). OnOk c.next_query.result (next_refusal o ≡ None)) is c.next_query.ensures.accepted

pub returns-in-Some-clause-refused : goal.returns-in-Some-clause-refused
returns-in-Some-clause-refused c =
    let all = c.self.inside.connections.items in
    let at : place c.args.conn all ≡ Some c.in-Some.place = search rules in
    let is : Some c.index_mut.result.now ≡ held c.args.conn c.args.self.now = ap Some c.index_mut.ensures.value ∙ sym (held_at c.args.conn all c.in-Some.place c.index_mut.result.now at).1 ∙ ap (held c.args.conn) c.self.view_is in
    subst (λ (o : Option Open). IfErr c.next_query.result (λ e. next_refusal o ≡ Some e)) is c.next_query.ensures.refused

pub returns-in-None-clause-refused : goal.returns-in-None-clause-refused
returns-in-None-clause-refused c =
    let all = c.self.inside.connections.items in
    let at : place c.args.conn all ≡ None = search rules in
    ap next_refusal (sym (ap (held c.args.conn) c.self.view_is) ∙ not_held c.args.conn all at)
