use Rattle.std.proofs.Common.{◌≡◌, ◌∙◌, ℕ, Some, Ok, length, subst, sym, rules}
use Rattle.poll_match.specs.declared.asked.Asked.TheVariants.{Read}
use Rattle.poll_match.specs.Window.{IsNextFrame, Changes, held, with_query}
use Rattle.office_core.specs.declared.event.Event.TheVariants.{Ask}
use Rattle.office_core.specs.Errors.{refused_by}
use Rattle.office_core.specs.Cover.{is_readable}
use Rattle.office_core.specs.Standing.{Goes, StandsFor}
use Rattle.office_core.specs.History.{ask_fault}
use Rattle.office_core.specs.Offices.{asked_so}
use Rattle.office_core.proofs.Leaving.{ask_writes_nothing, leaves_unwritten}
use Rattle.office_core.proofs.Asking.{ask_own, asking_judged, asking_refused, asking_goes, next_own}
use Rattle.office_core.proofs.Telling.{asked_err, own_err}
use Rattle.office_core.proofs.office.Office.step_ask.Goals as goal

pub returns-in_err-to-clause-goes : goal.returns-in_err-to-clause-goes
returns-in_err-to-clause-goes g c clean =
    let office = c.args.self.now in
    let holds = g.K.Neighbours.holds office.keeper in
    let stands = StandsFor holds office.site office.points.items office.matcher in
    let device = c.args.device.now in
    let e = c.in_err-to.field-0.0 in
    let fault : (made : ℕ) → ask_fault c.line_of-line.result office.site office.points.items made device c.args.read ≡ Some e =
    λ made. (λ i. ask_fault c.line_of-line.result office.site (sym c.deref.ensures.value i) made c.args.device.now c.args.read) ∙ c.in_err-to.ensures made in
    subst (Goes stands stands (Ask c.args.conn device c.args.slot c.args.read)) (sym (asked_err c.from_residual.result e c.from_residual.ensures.1))
    (asking_judged holds office.site office.points.items office.matcher c.args.conn device c.args.slot c.args.read c.line_of-line.result (sym c.line_of-line.ensures) e fault)

pub returns-in_err-next_query-clause-goes : goal.returns-in_err-next_query-clause-goes
returns-in_err-next_query-clause-goes g c clean =
    let office = c.args.self.now in
    let holds = g.K.Neighbours.holds office.keeper in
    let device = c.args.device.now in
    let to = c.in_ok-to.ensures in
    subst (Goes (StandsFor holds office.site office.points.items office.matcher) (StandsFor holds office.site office.points.items c.next_query.new.self) (Ask c.args.conn device c.args.slot c.args.read))
    (sym (asked_err c.from_residual-in_err-next_query.result (refused_by c.in_err-next_query.field-0.0) c.from_residual-in_err-next_query.ensures.1))
    (asking_refused holds office.site office.points.items office.matcher c.args.conn device c.args.slot c.args.read c.in_ok-to.to (sym c.line_of-line.ensures ∙ to.0)
    to.1 ((λ i. is_readable (sym c.deref.ensures.value i) c.args.device.now c.args.read) ∙ to.2)
    c.in_err-next_query.field-0.0 c.in_err-next_query.ensures.refused c.next_query.new.self c.in_err-next_query.ensures.err)

pub returns-clause-goes : goal.returns-clause-goes
returns-clause-goes g c clean =
    let office = c.args.self.now in
    let holds = g.K.Neighbours.holds office.keeper in
    let device = c.args.device.now in
    let to = c.in_ok-to.ensures in
    let count : c.len.result ≡ length office.points.items = search rules in
    asking_goes holds office.site office.points.items office.matcher c.args.conn device c.args.slot c.args.read c.in_ok-to.to (sym c.line_of-line.ensures ∙ to.0)
    to.1 ((λ i. is_readable (sym c.deref.ensures.value i) c.args.device.now c.args.read) ∙ to.2)
    c.in_ok-next_query.field-0 c.in_ok-next_query.ensures.accepted
    (subst (λ n. IsNextFrame (Read c.in_ok-to.to.unit_id c.in_ok-to.to.place c.args.slot c.args.read n) (held c.args.conn office.matcher) c.in_ok-next_query.field-0) count c.in_ok-next_query.ensures.frame)
    c.next_query.new.self
    (subst (λ n. Changes c.args.conn (with_query (Read c.in_ok-to.to.unit_id c.in_ok-to.to.place c.args.slot c.args.read n)) office.matcher c.next_query.new.self) count c.in_ok-next_query.ensures.next)

pub returns-in_err-to-clause-no_store : goal.returns-in_err-to-clause-no_store
returns-in_err-to-clause-no_store g c =
    own_err c.from_residual.result c.in_err-to.field-0.0 c.from_residual.ensures.1
    (ask_own c.line_of-line.result c.args.self.now.site c.deref.result.now 0 c.args.device.now c.args.read c.in_err-to.field-0.0 (c.in_err-to.ensures 0))

pub returns-in_err-next_query-clause-no_store : goal.returns-in_err-next_query-clause-no_store
returns-in_err-next_query-clause-no_store g c =
    own_err c.from_residual-in_err-next_query.result (refused_by c.in_err-next_query.field-0.0) c.from_residual-in_err-next_query.ensures.1
    (next_own (held c.args.conn c.args.self.now.matcher) c.in_err-next_query.field-0.0 c.in_err-next_query.ensures.refused)

pub returns-in_err-to-clause-leaves : goal.returns-in_err-to-clause-leaves
returns-in_err-to-clause-leaves g c clean =
    let office = c.args.self.now in
    let may = g.K.Neighbours.may_leave office.keeper in
    leaves_unwritten (StandsFor (g.K.Neighbours.holds office.keeper) office.site office.points.items office.matcher) may may
    (Ask c.args.conn c.args.device.now c.args.slot c.args.read) (asked_so c.from_residual.result) (ask_writes_nothing c.args.conn c.args.device.now c.args.slot c.args.read) (λ kept m. m)

pub returns-in_err-next_query-clause-leaves : goal.returns-in_err-next_query-clause-leaves
returns-in_err-next_query-clause-leaves g c clean =
    let office = c.args.self.now in
    let may = g.K.Neighbours.may_leave office.keeper in
    leaves_unwritten (StandsFor (g.K.Neighbours.holds office.keeper) office.site office.points.items office.matcher) may may
    (Ask c.args.conn c.args.device.now c.args.slot c.args.read) (asked_so c.from_residual-in_err-next_query.result) (ask_writes_nothing c.args.conn c.args.device.now c.args.slot c.args.read) (λ kept m. m)

pub returns-clause-leaves : goal.returns-clause-leaves
returns-clause-leaves g c clean =
    let office = c.args.self.now in
    let may = g.K.Neighbours.may_leave office.keeper in
    leaves_unwritten (StandsFor (g.K.Neighbours.holds office.keeper) office.site office.points.items office.matcher) may may
    (Ask c.args.conn c.args.device.now c.args.slot c.args.read) (asked_so (Ok c.in_ok-next_query.field-0)) (ask_writes_nothing c.args.conn c.args.device.now c.args.slot c.args.read) (λ kept m. m)
