use Rattle.std.proofs.Common.{◌∙◌, List, Ok, sym, subst}
use Rattle.poll_book.specs.declared.rows.PointRow.{PointRow}
use Rattle.poll_book.specs.Tables.{Tables}
use Rattle.office_core.specs.declared.event.Event.TheVariants.{Send}
use Rattle.office_core.specs.Errors.{refused_by}
use Rattle.office_core.specs.History.{History, tables, settings}
use Rattle.office_core.specs.Sending.{IsRefused, IsSent}
use Rattle.office_core.specs.Standing.{Goes, StandsFor}
use Rattle.office_core.specs.Offices.{asked_so}
use Rattle.office_core.proofs.Leaving.{leaves_unwritten, send_writes_nothing}
use Rattle.office_core.proofs.Sending.{sending_judged, sending_refused, sending_goes}
use Rattle.office_core.proofs.Telling.{asked_err}
use Rattle.office_core.proofs.office.Office.step_send.Goals as goal

pub returns-in_err-asked-clause-goes : goal.returns-in_err-asked-clause-goes
returns-in_err-asked-clause-goes g c clean =
    let office = c.args.self.now in
    let holds = g.K.Neighbours.holds office.keeper in
    let holds' = g.K.Neighbours.holds c.judge_send.new.keeper in
    let keeps : (kept : Tables) → holds kept → holds' kept = c.judge_send.ensures.same in
    let known = office.points.items in
    let line = c.line_of-line.result in
    let stand = StandsFor holds office.site known office.matcher in
    let e = c.in_err-asked.field-0.0 in
    subst (Goes stand (StandsFor holds' office.site known office.matcher) (Send c.args.conn c.args.number)) (sym (asked_err c.from_residual.result e c.from_residual.ensures.1))
    (sending_judged holds office.site known office.matcher c.args.conn c.args.number line (sym c.line_of-line.ensures) holds' keeps e
    (λ before stands. subst (λ (l : List PointRow). IsRefused line office.site l (settings before) c.args.number e) c.deref.ensures.value
    (c.in_err-asked.ensures.value clean (tables before) stands.tables (c.deref.ensures.value ∙ stands.points))))

pub returns-in_err-next_query-clause-goes : goal.returns-in_err-next_query-clause-goes
returns-in_err-next_query-clause-goes g c clean =
    let office = c.args.self.now in
    let holds = g.K.Neighbours.holds office.keeper in
    let holds' = g.K.Neighbours.holds c.judge_send.new.keeper in
    let keeps : (kept : Tables) → holds kept → holds' kept = c.judge_send.ensures.same in
    let known = office.points.items in
    let line = c.line_of-line.result in
    let stand = StandsFor holds office.site known office.matcher in
    let sent : (before : History) → stand before → IsSent line office.site known (settings before) c.args.number c.in_ok-asked.asked =
    λ before stands. subst (λ (l : List PointRow). IsSent line office.site l (settings before) c.args.number c.in_ok-asked.asked) c.deref.ensures.value
    (c.in_ok-asked.ensures.value clean (tables before) stands.tables (c.deref.ensures.value ∙ stands.points)) in
    subst (Goes stand (StandsFor holds' office.site known c.next_query.new.self) (Send c.args.conn c.args.number))
    (sym (asked_err c.from_residual-in_err-next_query.result (refused_by c.in_err-next_query.field-0.0) c.from_residual-in_err-next_query.ensures.1))
    (sending_refused holds office.site known office.matcher c.args.conn c.args.number line (sym c.line_of-line.ensures) holds' keeps c.in_ok-asked.asked sent
    c.in_err-next_query.field-0.0 c.in_err-next_query.ensures.refused c.next_query.new.self c.in_err-next_query.ensures.err)

pub returns-clause-goes : goal.returns-clause-goes
returns-clause-goes g c clean =
    let office = c.args.self.now in
    let holds = g.K.Neighbours.holds office.keeper in
    let holds' = g.K.Neighbours.holds c.judge_send.new.keeper in
    let keeps : (kept : Tables) → holds kept → holds' kept = c.judge_send.ensures.same in
    let known = office.points.items in
    let line = c.line_of-line.result in
    let stand = StandsFor holds office.site known office.matcher in
    let sent : (before : History) → stand before → IsSent line office.site known (settings before) c.args.number c.in_ok-asked.asked =
    λ before stands. subst (λ (l : List PointRow). IsSent line office.site l (settings before) c.args.number c.in_ok-asked.asked) c.deref.ensures.value
    (c.in_ok-asked.ensures.value clean (tables before) stands.tables (c.deref.ensures.value ∙ stands.points)) in
    sending_goes holds office.site known office.matcher c.args.conn c.args.number line (sym c.line_of-line.ensures) holds' keeps c.in_ok-asked.asked sent
    c.in_ok-next_query.field-0 c.in_ok-next_query.ensures.accepted c.in_ok-next_query.ensures.frame c.next_query.new.self c.in_ok-next_query.ensures.next

pub returns-in_err-asked-clause-leaves : goal.returns-in_err-asked-clause-leaves
returns-in_err-asked-clause-leaves g c clean =
    let office = c.args.self.now in
    let may = g.K.Neighbours.may_leave in
    leaves_unwritten (StandsFor (g.K.Neighbours.holds office.keeper) office.site office.points.items office.matcher) (may office.keeper) (may c.judge_send.new.keeper)
    (Send c.args.conn c.args.number) (asked_so c.from_residual.result) (send_writes_nothing c.args.conn c.args.number) (c.judge_send.ensures.leaves clean)

pub returns-in_err-next_query-clause-leaves : goal.returns-in_err-next_query-clause-leaves
returns-in_err-next_query-clause-leaves g c clean =
    let office = c.args.self.now in
    let may = g.K.Neighbours.may_leave in
    leaves_unwritten (StandsFor (g.K.Neighbours.holds office.keeper) office.site office.points.items office.matcher) (may office.keeper) (may c.judge_send.new.keeper)
    (Send c.args.conn c.args.number) (asked_so c.from_residual-in_err-next_query.result) (send_writes_nothing c.args.conn c.args.number) (c.judge_send.ensures.leaves clean)

pub returns-clause-leaves : goal.returns-clause-leaves
returns-clause-leaves g c clean =
    let office = c.args.self.now in
    let may = g.K.Neighbours.may_leave in
    leaves_unwritten (StandsFor (g.K.Neighbours.holds office.keeper) office.site office.points.items office.matcher) (may office.keeper) (may c.judge_send.new.keeper)
    (Send c.args.conn c.args.number) (asked_so (Ok c.in_ok-next_query.field-0)) (send_writes_nothing c.args.conn c.args.number) (c.judge_send.ensures.leaves clean)
