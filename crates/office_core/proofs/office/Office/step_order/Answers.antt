use Rattle.std.proofs.Common.{◌≡◌, ◌∙◌, Some, None, Ok, sym, ap, refl}
use Rattle.std.specs.Int.{w128}
use Rattle.std.proofs.lemmas.Int.{to_z-of_z}
use Rattle.poll_book.specs.declared.requests.Body.TheVariants as body
use Rattle.poll_book.specs.Requests.{request_at}
use Rattle.poll_book.specs.Tables.{Tables}
use Rattle.office_core.specs.declared.event.Event.TheVariants.{Order}
use Rattle.office_core.specs.Answers.{answer_again}
use Rattle.office_core.specs.History.{requests, tables}
use Rattle.office_core.specs.Offices.{told_so}
use Rattle.office_core.specs.Standing.{StandsFor}
use Rattle.office_core.proofs.Leaving.{At, leaves_after, leaves_same}
use Rattle.office_core.proofs.Steps.{again_goes, goes_from, same_stands}
use Rattle.office_core.proofs.office.Office.step_order.Goals as goal

pub returns-in-Some-clause-goes : goal.returns-in-Some-clause-goes
returns-in-Some-clause-goes g c clean =
    let office = c.args.self.now in
    let old : Tables → Type 0 = g.K.Neighbours.holds office.keeper in
    let new : Tables → Type 0 = g.K.Neighbours.holds c.former.new.keeper in
    let keeps : (kept : Tables) → old kept → new kept = c.former.ensures.same in
    again_goes old office.site office.points.items office.matcher (c.args.caller.now, c.args.key.now) (body.Order c.args.point.now c.args.value) c.in-Some.first new keeps
    (λ kept h. sym (c.in_ok-first.ensures.value clean kept h) ∙ c.in-Some.is) c.order_again.result (λ outcome. c.order_again.ensures outcome ∙ ap (λ v. answer_again (Some c.in-Some.first) (body.Order c.args.point.now v) outcome) (to_z-of_z w128 c.args.value c.ranges.value))

pub returns-clause-goes : goal.returns-clause-goes
returns-clause-goes g c clean =
    let office = c.args.self.now in
    let old : Tables → Type 0 = g.K.Neighbours.holds office.keeper in
    let new : Tables → Type 0 = g.K.Neighbours.holds c.former.new.keeper in
    let keeps : (kept : Tables) → old kept → new kept = c.former.ensures.same in
    let known = office.points.items in
    goes_from (StandsFor old office.site known office.matcher) _ _ (Order c.args.caller.now c.args.key.now c.args.point.now c.args.value) (told_so c.order_new.result)
    (λ before stands. (
      same_stands old office.site known office.matcher new office.matcher (λ conn. refl) before (keeps (tables before)) stands,
      sym (c.in_ok-first.ensures.value (c.order_new.ensures.accounts.2 clean) (tables before) stands.tables) ∙ c.in_default.is,
    ))
    (rw (to_z-of_z w128 c.args.value c.ranges.value) at (c.order_new.ensures.goes clean))

pub returns-in-Some-clause-leaves : goal.returns-in-Some-clause-leaves
returns-in-Some-clause-leaves g c clean =
    let office = c.args.self.now in
    let known = office.points.items in
    let holds : Tables → Type 0 = g.K.Neighbours.holds office.keeper in
    let may : Tables → Type 0 = g.K.Neighbours.may_leave office.keeper in
    let may' : Tables → Type 0 = g.K.Neighbours.may_leave c.former.new.keeper in
    leaves_same holds may may' office.site known office.matcher office.site known office.matcher (Order c.args.caller.now c.args.key.now c.args.point.now c.args.value) (told_so (Ok c.order_again.result))
    (c.former.ensures.leaves clean)
    (λ at. again_goes (At holds at) office.site known office.matcher (c.args.caller.now, c.args.key.now) (body.Order c.args.point.now c.args.value) c.in-Some.first (λ kept. kept ≡ at) (λ kept h. h.1)
    (λ kept h. sym (c.in_ok-first.ensures.value clean kept h.0) ∙ c.in-Some.is) c.order_again.result
    (λ outcome. c.order_again.ensures outcome ∙ ap (λ v. answer_again (Some c.in-Some.first) (body.Order c.args.point.now v) outcome) (to_z-of_z w128 c.args.value c.ranges.value)))

pub returns-clause-leaves : goal.returns-clause-leaves
returns-clause-leaves g c clean =
    let office = c.args.self.now in
    let known = office.points.items in
    let old : Tables → Type 0 = g.K.Neighbours.holds office.keeper in
    let mid : Tables → Type 0 = g.K.Neighbours.holds c.former.new.keeper in
    let may = g.K.Neighbours.may_leave in
    let keeps : (kept : Tables) → old kept → mid kept = c.former.ensures.same in
    leaves_after (StandsFor old office.site known office.matcher)
    (λ before. StandsFor mid office.site known office.matcher before × (request_at (requests before) (c.args.caller.now, c.args.key.now) ≡ None))
    (may office.keeper) (may c.former.new.keeper) (may c.order_new.new.self.keeper) (Order c.args.caller.now c.args.key.now c.args.point.now c.args.value) (told_so c.order_new.result)
    (λ before stands. (
      same_stands old office.site known office.matcher mid office.matcher (λ conn. refl) before (keeps (tables before)) stands,
      sym (c.in_ok-first.ensures.value (c.order_new.ensures.accounts.2 clean) (tables before) stands.tables) ∙ c.in_default.is,
    ))
    (c.former.ensures.leaves (c.order_new.ensures.accounts.2 clean)) (rw (to_z-of_z w128 c.args.value c.ranges.value) at (c.order_new.ensures.leaves clean))
