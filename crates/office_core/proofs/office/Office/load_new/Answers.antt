use Rattle.std.proofs.Common.{◌≡◌, ◌∙◌, inl, true, false, List, ◌++◌, None, length, refl, sym, ap, subst, arith, length-append}
use Rattle.point_list.specs.Edition.{Second}
use Rattle.poll_book.specs.declared.rows.Change.{Change}
use Rattle.poll_book.specs.declared.rows.PointRow.{PointRow}
use Rattle.poll_book.specs.declared.requests.Body.TheVariants as body
use Rattle.poll_book.specs.declared.requests.RequestRow.{RequestRow}
use Rattle.poll_book.specs.Changes.{AreNumbered, applied}
use Rattle.poll_book.specs.Requests.{request_at}
use Rattle.poll_book.specs.Tables.{Tables}
use Rattle.office_core.specs.declared.event.Event.TheVariants.{Load}
use Rattle.office_core.specs.declared.event.EventAnswer.TheVariants as answer
use Rattle.office_core.specs.declared.event.RequestAnswer.TheVariants.{Kept}
use Rattle.office_core.specs.Errors.{refused_store}
use Rattle.office_core.specs.History.{requests}
use Rattle.office_core.specs.Keeping.{asked_change}
use Rattle.office_core.specs.Loads.{added, loading, outcome}
use Rattle.office_core.specs.Offices.{StandsUnused, told_so}
use Rattle.office_core.specs.Standing.{Goes, StandsFor, is_store}
use Rattle.office_core.proofs.Loaded.{numbered_added}
use Rattle.office_core.proofs.Leaving.{At, Left, leaves_unused, tried_is}
use Rattle.office_core.proofs.Newness.{applied_loaded, new_loaded}
use Rattle.office_core.proofs.Steps.{goes_from, loaded_goes, store_goes}
use Rattle.office_core.proofs.Telling.{request_err}
use Rattle.office_core.proofs.office.Office.load_new.Goals as goal

pub returns-clause-goes : goal.returns-clause-goes
returns-clause-goes g c clean =
    let office = c.args.self.now in
    let holds = g.K.Neighbours.holds in
    let old : Tables → Type 0 = holds office.keeper in
    let new : Tables → Type 0 = holds c.commit.new.keeper in
    let known = office.points.items in
    let list = c.args.list.now in
    let more = added (length known) (loading Second office.site known list) in
    let told = outcome (loading Second office.site known list) in
    let is_told : c.in_ok-outcome.field-0.outcome ≡ told = c.in_ok-outcome.ensures.outcome ∙ ap (λ (l : List PointRow). outcome (loading Second office.site l list)) c.deref.ensures.value in
    let is_more : c.in_ok-outcome.field-0.points.items ≡ more = c.in_ok-outcome.ensures.added ∙ ap (λ (l : List PointRow). added (length l) (loading Second office.site l list)) c.deref.ensures.value in
    let request : RequestRow = record { caller = c.args.caller.now; key = c.args.key.now; body = body.List list; outcome = told } in
    let is_request : c.in_ok-request.request ≡ request = c.in_ok-request.ensures ∙ (λ i. record request { outcome = is_told i }) in
    let change : c.request_change-change.result ≡ asked_change more None request = c.request_change-change.ensures ∙ (λ i. asked_change (is_more i) None (is_request i)) in
    let numbered : (kept : Tables) → known ≡ kept.points → AreNumbered (length kept.points) more =
    λ kept copy. subst (λ (l : List PointRow). AreNumbered (length l) more) copy (numbered_added (length known) (loading Second office.site known list)) in
    let longer : c.add_points.new.points.items ≡ known ++ more =
    c.add_points.ensures.points ∙ (λ i. c.reserve.ensures.items i ++ (c.as_slice.ensures ∙ ap (λ (x : Change). x.points) change) i) in
    subst (Goes (λ before. StandsFor old office.site known office.matcher before × (request_at (requests before) (c.args.caller.now, c.args.key.now) ≡ None))
    (StandsFor new office.site c.add_points.new.points.items office.matcher) (Load c.args.caller.now c.args.key.now list)) (ap (λ o. answer.Request (Kept true o)) (sym is_told))
    (loaded_goes old office.site known office.matcher c.args.caller.now c.args.key.now list new
    (λ kept h copy unused. subst new (applied_loaded more request c.request_change-change.result kept change copy.1 (numbered kept copy.0))
    (c.in_ok-commit.ensures.kept clean kept h (new_loaded more request c.request_change-change.result kept change copy.1 (numbered kept copy.0) unused)))
    c.add_points.new.points.items longer)

pub invariant_of-self-2 : goal.invariant_of-self-2
invariant_of-self-2 g c =
    let known = c.args.self.now.points.items in
    let rows = c.in_ok-outcome.field-0.points.items in
    let more : c.add_points.new.points.items ≡ known ++ rows =
    c.add_points.ensures.points ∙ (λ i. c.reserve.ensures.items i ++ (c.as_slice.ensures ∙ ap (λ (x : Change). x.points) c.request_change-change.ensures) i) in
    record { few = omega (arith, ap length more, length-append known rows, c.in_ok-outcome.ensures.few, ap length c.deref.ensures.value); devices = c.add_points.ensures.devices; names = c.add_points.ensures.names; sound = c.args.self.now.sound; numbers = c.add_points.ensures.numbers }

pub returns-clause-leaves : goal.returns-clause-leaves
returns-clause-leaves g c clean =
    let office = c.args.self.now in
    let holds : Tables → Type 0 = g.K.Neighbours.holds office.keeper in
    let may : Tables → Type 0 = g.K.Neighbours.may_leave office.keeper in
    let may' : Tables → Type 0 = g.K.Neighbours.may_leave c.commit.new.keeper in
    let known = office.points.items in
    let list = c.args.list.now in
    let more = added (length known) (loading Second office.site known list) in
    let told = outcome (loading Second office.site known list) in
    let is_told : c.in_ok-outcome.field-0.outcome ≡ told = c.in_ok-outcome.ensures.outcome ∙ ap (λ (l : List PointRow). outcome (loading Second office.site l list)) c.deref.ensures.value in
    let is_more : c.in_ok-outcome.field-0.points.items ≡ more = c.in_ok-outcome.ensures.added ∙ ap (λ (l : List PointRow). added (length l) (loading Second office.site l list)) c.deref.ensures.value in
    let request : RequestRow = record { caller = c.args.caller.now; key = c.args.key.now; body = body.List list; outcome = told } in
    let is_request : c.in_ok-request.request ≡ request = c.in_ok-request.ensures ∙ (λ i. record request { outcome = is_told i }) in
    let change : c.request_change-change.result ≡ asked_change more None request = c.request_change-change.ensures ∙ (λ i. asked_change (is_more i) None (is_request i)) in
    let numbered : (kept : Tables) → known ≡ kept.points → AreNumbered (length kept.points) more =
    λ kept copy. subst (λ (l : List PointRow). AreNumbered (length l) more) copy (numbered_added (length known) (loading Second office.site known list)) in
    leaves_unused holds may may' office.site known office.matcher (c.args.caller.now, c.args.key.now) office.site (known ++ more) office.matcher (Load c.args.caller.now c.args.key.now list)
    (answer.Request (Kept true c.in_ok-outcome.field-0.outcome)) (answer.Request (Kept true told)) false refl refl
    (λ at. loaded_goes (At holds at) office.site known office.matcher c.args.caller.now c.args.key.now list (Left may may' at false)
    (λ kept h copy unused left m. inl (c.in_ok-commit.ensures.leaves clean kept h.0
    (new_loaded more request c.request_change-change.result kept change copy.1 (numbered kept copy.0) unused) left m
    ∙ applied_loaded more request c.request_change-change.result kept change copy.1 (numbered kept copy.0)))
    (known ++ more) refl)

pub returns-in_err-commit-clause-leaves : goal.returns-in_err-commit-clause-leaves
returns-in_err-commit-clause-leaves g c clean =
    let office = c.args.self.now in
    let holds : Tables → Type 0 = g.K.Neighbours.holds office.keeper in
    let may : Tables → Type 0 = g.K.Neighbours.may_leave office.keeper in
    let may' : Tables → Type 0 = g.K.Neighbours.may_leave c.commit.new.keeper in
    let known = office.points.items in
    let list = c.args.list.now in
    let more = added (length known) (loading Second office.site known list) in
    let told = outcome (loading Second office.site known list) in
    let is_told : c.in_ok-outcome.field-0.outcome ≡ told = c.in_ok-outcome.ensures.outcome ∙ ap (λ (l : List PointRow). outcome (loading Second office.site l list)) c.deref.ensures.value in
    let is_more : c.in_ok-outcome.field-0.points.items ≡ more = c.in_ok-outcome.ensures.added ∙ ap (λ (l : List PointRow). added (length l) (loading Second office.site l list)) c.deref.ensures.value in
    let request : RequestRow = record { caller = c.args.caller.now; key = c.args.key.now; body = body.List list; outcome = told } in
    let is_request : c.in_ok-request.request ≡ request = c.in_ok-request.ensures ∙ (λ i. record request { outcome = is_told i }) in
    let change : c.request_change-change.result ≡ asked_change more None request = c.request_change-change.ensures ∙ (λ i. asked_change (is_more i) None (is_request i)) in
    let numbered : (kept : Tables) → known ≡ kept.points → AreNumbered (length kept.points) more =
    λ kept copy. subst (λ (l : List PointRow). AreNumbered (length l) more) copy (numbered_added (length known) (loading Second office.site known list)) in
    let e = refused_store c.in_err-commit.field-0.0 in
    leaves_unused holds may may' office.site known office.matcher (c.args.caller.now, c.args.key.now) office.site (known ++ more) office.matcher (Load c.args.caller.now c.args.key.now list)
    (told_so c.from_residual-in_err-commit.result) (answer.Request (Kept true told)) true
    (ap is_store (request_err c.from_residual-in_err-commit.result e c.from_residual-in_err-commit.ensures.1)) refl
    (λ at. loaded_goes (At holds at) office.site known office.matcher c.args.caller.now c.args.key.now list (Left may may' at true)
    (λ kept h copy unused left m. tried_is may may (applied c.request_change-change.result kept) _ left (λ t was. was)
    (applied_loaded more request c.request_change-change.result kept change copy.1 (numbered kept copy.0))
    (c.in_err-commit.ensures.leaves clean kept h.0
    (new_loaded more request c.request_change-change.result kept change copy.1 (numbered kept copy.0) unused) left m))
    (known ++ more) refl)

pub returns-in_err-commit-clause-goes : goal.returns-in_err-commit-clause-goes
returns-in_err-commit-clause-goes g c clean =
    let office = c.args.self.now in
    let old : Tables → Type 0 = g.K.Neighbours.holds office.keeper in
    let new : Tables → Type 0 = g.K.Neighbours.holds c.commit.new.keeper in
    let known = office.points.items in
    let seen = Load c.args.caller.now c.args.key.now c.args.list.now in
    let told = told_so c.from_residual-in_err-commit.result in
    let store : is_store told ≡ true =
    ap is_store (request_err c.from_residual-in_err-commit.result (refused_store c.in_err-commit.field-0.0) c.from_residual-in_err-commit.ensures.1) in
    goes_from (StandsUnused office (c.args.caller.now, c.args.key.now)) (StandsFor old office.site known office.matcher) (StandsFor new office.site c.reserve.new.self.items office.matcher)
    seen told (λ before stands. stands.0)
    (subst (λ (l : List PointRow). Goes (StandsFor old office.site known office.matcher) (StandsFor new office.site l office.matcher) seen told) (sym c.reserve.ensures.items)
    (store_goes old office.site known office.matcher new (λ kept h copy. c.in_err-commit.ensures.err kept h) office.matcher (λ conn. refl) seen told store))
