use Rattle.std.proofs.Common.{◌∙◌, ◌∷◌, false, subst, sym, ap, refl}
use Rattle.poll_match.specs.Window.{held}
use Rattle.poll_book.specs.Tables.{Tables}
use Rattle.office_core.specs.declared.event.Event.TheVariants.{Arrive}
use Rattle.office_core.specs.declared.event.EventAnswer.TheVariants as answer
use Rattle.office_core.specs.Errors.{refused_store}
use Rattle.office_core.specs.Keeping.{IsCopy, brought, arrival_of}
use Rattle.office_core.specs.Leavings.{LeftAfter}
use Rattle.office_core.specs.Offices.{arrived}
use Rattle.office_core.specs.Standing.{StandsFor, is_store}
use Rattle.office_core.specs.History.{tables}
use Rattle.office_core.proofs.Looked.{looks_named}
use Rattle.office_core.proofs.Leaving.{At, Left, leaves_made, leaves_tried, tried_is}
use Rattle.office_core.proofs.Steps.{arrival_goes, arrival_made, copy_of}
use Rattle.office_core.proofs.Telling.{arrived_err}
use Rattle.office_core.proofs.office.Office.take_reply.Goals as goal

pub returns-clause-goes : goal.returns-clause-goes
returns-clause-goes g c frame answered clean =
    let office = c.args.self.now in
    let holds = g.K.Neighbours.holds in
    let asked = c.args.asked.now in
    let reply = c.args.reply.now in
    arrival_goes (holds office.keeper) office.site office.points.items office.matcher c.args.conn frame c.args.number asked reply answered.0 answered.1
    (holds c.keep_brought.new.keeper)
    (λ kept h copy. subst (λ l. holds c.keep_brought.new.keeper (brought office.site l asked reply kept)) c.deref.ensures.value
    (c.in_ok-arrival.ensures.kept clean kept h (subst (λ l. IsCopy l kept) (sym c.deref.ensures.value) copy)))
    c.settle.new.self c.settle.ensures c.in_ok-arrival.arrival
    (λ kept h. c.in_ok-arrival.ensures.told clean kept h ∙ ap (λ l. arrival_of office.site l asked reply kept) c.deref.ensures.value)

pub returns-in_err-arrival-clause-leaves : goal.returns-in_err-arrival-clause-leaves
returns-in_err-arrival-clause-leaves g c frame answered clean =
    let office = c.args.self.now in
    let holds : Tables → Type 0 = g.K.Neighbours.holds office.keeper in
    let may : Tables → Type 0 = g.K.Neighbours.may_leave office.keeper in
    let may' : Tables → Type 0 = g.K.Neighbours.may_leave c.keep_brought.new.keeper in
    let known = office.points.items in
    let asked = c.args.asked.now in
    let reply = c.args.reply.now in
    leaves_tried (StandsFor holds office.site known office.matcher) may may' (Arrive c.args.conn frame) (arrived c.from_residual.result)
    (ap is_store (arrived_err c.from_residual.result (refused_store c.in_err-arrival.field-0.0) c.from_residual.ensures.1))
    (λ before happening stands can sees left m.
    let copy = copy_of holds office.site known office.matcher before stands in
    tried_is may may (brought office.site c.deref.result.now asked reply (tables before)) (tables (happening ∷ before)) left (λ t was. was)
    (ap (λ l. brought office.site l asked reply (tables before)) c.deref.ensures.value
    ∙ arrival_made holds office.site known office.matcher c.args.conn frame c.args.number asked reply answered.0 answered.1 before happening stands can sees)
    (c.in_err-arrival.ensures.leaves clean (tables before) stands.tables (subst (λ l. IsCopy l (tables before)) (sym c.deref.ensures.value) copy) left m))

pub returns-clause-leaves : goal.returns-clause-leaves
returns-clause-leaves g c frame answered clean =
    let office = c.args.self.now in
    let holds : Tables → Type 0 = g.K.Neighbours.holds office.keeper in
    let may : Tables → Type 0 = g.K.Neighbours.may_leave office.keeper in
    let may' : Tables → Type 0 = g.K.Neighbours.may_leave c.keep_brought.new.keeper in
    let known = office.points.items in
    let asked = c.args.asked.now in
    let reply = c.args.reply.now in
    leaves_made holds may may' office.site known office.matcher office.site known c.settle.new.self (Arrive c.args.conn frame)
    (answer.Arrived c.in_ok-arrival.arrival) (answer.Arrived c.in_ok-arrival.arrival) false refl refl
    (λ at. arrival_goes (At holds at) office.site known office.matcher c.args.conn frame c.args.number asked reply answered.0 answered.1
    (Left may may' at false)
    (λ kept h copy left m. subst (λ (x : Tables × Tables). LeftAfter may x.0 x.1 false left) (λ i. (h.1 i, brought office.site (c.deref.ensures.value i) asked reply kept))
    (c.in_ok-arrival.ensures.leaves clean kept h.0 (subst (λ l. IsCopy l kept) (sym c.deref.ensures.value) copy) left m))
    c.settle.new.self c.settle.ensures c.in_ok-arrival.arrival
    (λ kept h. c.in_ok-arrival.ensures.told clean kept h.0 ∙ ap (λ l. arrival_of office.site l asked reply kept) c.deref.ensures.value))

pub returns-clause-looks : goal.returns-clause-looks
returns-clause-looks g c frame answered =
    let office = c.args.self.now in
    looks_named office.site office.points.items c.deref.result.now (held c.args.conn office.matcher) frame c.args.number c.args.asked.now c.args.reply.now
    (g.K.Neighbours.looked office.keeper) (g.K.Neighbours.looked c.keep_brought.new.keeper) answered.1 c.deref.ensures.value c.keep_brought.ensures.looks

pub returns-in_err-arrival-clause-looks : goal.returns-in_err-arrival-clause-looks
returns-in_err-arrival-clause-looks g c frame answered =
    let office = c.args.self.now in
    looks_named office.site office.points.items c.deref.result.now (held c.args.conn office.matcher) frame c.args.number c.args.asked.now c.args.reply.now
    (g.K.Neighbours.looked office.keeper) (g.K.Neighbours.looked c.keep_brought.new.keeper) answered.1 c.deref.ensures.value c.keep_brought.ensures.looks
