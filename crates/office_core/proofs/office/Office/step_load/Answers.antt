use Rattle.std.proofs.Common.{◌≡◌, ◌∙◌, None, Ok, sym, refl}
use Rattle.poll_book.specs.declared.requests.Body.TheVariants as body
use Rattle.poll_book.specs.Requests.{request_at}
use Rattle.poll_book.specs.Tables.{Tables}
use Rattle.office_core.specs.declared.event.Event.TheVariants.{Load}
use Rattle.office_core.specs.History.{requests, tables}
use Rattle.office_core.specs.Offices.{told_so}
use Rattle.office_core.specs.Standing.{StandsFor}
use Rattle.office_core.proofs.Leaving.{At, leaves_after, leaves_same}
use Rattle.office_core.proofs.Steps.{again_goes, goes_from, same_stands}
use Rattle.office_core.proofs.office.Office.step_load.Goals as goal

pub returns-in-Some-clause-goes : goal.returns-in-Some-clause-goes
returns-in-Some-clause-goes g c clean =
    let office = c.args.self.now in
    let old : Tables → Type 0 = g.K.Neighbours.holds office.keeper in
    let new : Tables → Type 0 = g.K.Neighbours.holds c.former.new.keeper in
    let keeps : (kept : Tables) → old kept → new kept = c.former.ensures.same in
    again_goes old office.site office.points.items office.matcher (c.args.caller.now, c.args.key.now) (body.List c.args.list.now) c.in-Some.first new keeps
    (λ kept h. sym (c.in_ok-first.ensures.value clean kept h) ∙ c.in-Some.is) c.list_again.result c.list_again.ensures

pub returns-clause-goes : goal.returns-clause-goes
returns-clause-goes g c clean =
    let office = c.args.self.now in
    let old : Tables → Type 0 = g.K.Neighbours.holds office.keeper in
    let new : Tables → Type 0 = g.K.Neighbours.holds c.former.new.keeper in
    let keeps : (kept : Tables) → old kept → new kept = c.former.ensures.same in
    let known = office.points.items in
    goes_from (StandsFor old office.site known office.matcher) _ _ (Load c.args.caller.now c.args.key.now c.args.list.now) (told_so c.load_new.result)
    (λ before stands. (
      same_stands old office.site known office.matcher new office.matcher (λ conn. refl) before (keeps (tables before)) stands,
      sym (c.in_ok-first.ensures.value (c.load_new.ensures.accounts.2 clean) (tables before) stands.tables) ∙ c.in_default.is,
    ))
    (c.load_new.ensures.goes clean)

pub returns-in-Some-clause-leaves : goal.returns-in-Some-clause-leaves
returns-in-Some-clause-leaves g c clean =
    let office = c.args.self.now in
    let known = office.points.items in
    let holds : Tables → Type 0 = g.K.Neighbours.holds office.keeper in
    let may : Tables → Type 0 = g.K.Neighbours.may_leave office.keeper in
    let may' : Tables → Type 0 = g.K.Neighbours.may_leave c.former.new.keeper in
    leaves_same holds may may' office.site known office.matcher office.site known office.matcher (Load c.args.caller.now c.args.key.now c.args.list.now) (told_so (Ok c.list_again.result))
    (c.former.ensures.leaves clean)
    (λ at. again_goes (At holds at) office.site known office.matcher (c.args.caller.now, c.args.key.now) (body.List c.args.list.now) c.in-Some.first (λ kept. kept ≡ at) (λ kept h. h.1)
    (λ kept h. sym (c.in_ok-first.ensures.value clean kept h.0) ∙ c.in-Some.is) c.list_again.result c.list_again.ensures)

pub returns-clause-leaves : goal.returns-clause-leaves
returns-clause-leaves g c clean =
    let office = c.args.self.now in
    let known = office.points.items in
    let old : Tables → Type 0 = g.K.Neighbours.holds office.keeper in
    let mid : Tables → Type 0 = g.K.Neighbours.holds c.former.new.keeper in
    let may = g.K.Neighbours.may_leave in
    let keeps : (kept : Tables) → old kept → mid kept = c.former.ensures.same in
    leaves_after (StandsFor old office.site known office.matcher)
    (λ before. StandsFor mid office.site known office.matcher before × (request_at (requests before) (c.args.caller.now, c.args.key.now) ≡ None))
    (may office.keeper) (may c.former.new.keeper) (may c.load_new.new.self.keeper) (Load c.args.caller.now c.args.key.now c.args.list.now) (told_so c.load_new.result)
    (λ before stands. (
      same_stands old office.site known office.matcher mid office.matcher (λ conn. refl) before (keeps (tables before)) stands,
      sym (c.in_ok-first.ensures.value (c.load_new.ensures.accounts.2 clean) (tables before) stands.tables) ∙ c.in_default.is,
    ))
    (c.former.ensures.leaves (c.load_new.ensures.accounts.2 clean)) (c.load_new.ensures.leaves clean)
