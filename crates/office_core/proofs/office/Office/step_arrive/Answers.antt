use Rattle.std.proofs.Common.{sym, subst}
use Rattle.poll_book.specs.Tables.{Tables}
use Rattle.office_core.specs.declared.event.Event.TheVariants.{Arrive}
use Rattle.office_core.specs.Errors.{refused_by}
use Rattle.office_core.specs.Offices.{arrived}
use Rattle.office_core.specs.Standing.{Goes, StandsFor}
use Rattle.office_core.proofs.Leaving.{At, leaves_still}
use Rattle.office_core.proofs.Steps.{arrival_refused_goes}
use Rattle.office_core.proofs.Telling.{arrived_err}
use Rattle.office_core.proofs.office.Office.step_arrive.Goals as goal

pub returns-in_err-found-clause-goes : goal.returns-in_err-found-clause-goes
returns-in_err-found-clause-goes g c clean =
    let office = c.args.self.now in
    let stands = StandsFor (g.K.Neighbours.holds office.keeper) office.site office.points.items office.matcher in
    subst (Goes stands stands (Arrive c.args.conn c.args.frame.now)) (sym (arrived_err c.from_residual.result (refused_by c.in_err-found.field-0.0) c.from_residual.ensures.1))
    (arrival_refused_goes (g.K.Neighbours.holds office.keeper) office.site office.points.items office.matcher c.args.conn c.args.frame.now c.in_err-found.field-0.0 c.in_err-found.ensures.1)

pub returns-in_err-found-clause-leaves : goal.returns-in_err-found-clause-leaves
returns-in_err-found-clause-leaves g c clean =
    let office = c.args.self.now in
    let holds : Tables → Type 0 = g.K.Neighbours.holds office.keeper in
    let may : Tables → Type 0 = g.K.Neighbours.may_leave office.keeper in
    let known = office.points.items in
    leaves_still holds may may office.site known office.matcher office.matcher (Arrive c.args.conn c.args.frame.now) (arrived c.from_residual.result) (λ kept m. m)
    (λ at. subst (Goes (StandsFor (At holds at) office.site known office.matcher) (StandsFor (At holds at) office.site known office.matcher) (Arrive c.args.conn c.args.frame.now))
    (sym (arrived_err c.from_residual.result (refused_by c.in_err-found.field-0.0) c.from_residual.ensures.1))
    (arrival_refused_goes (At holds at) office.site known office.matcher c.args.conn c.args.frame.now c.in_err-found.field-0.0 c.in_err-found.ensures.1))
