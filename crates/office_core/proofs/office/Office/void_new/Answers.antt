use Rattle.std.proofs.Common.{◌≡◌, ◌∙◌, inl, true, false, Some, refl, sym, ap, subst}
use Rattle.poll_book.specs.declared.requests.Body.TheVariants as body
use Rattle.poll_book.specs.declared.requests.RequestRow.{RequestRow}
use Rattle.poll_book.specs.declared.rows.Change.{Change}
use Rattle.poll_book.specs.Changes.{applied, IsNew}
use Rattle.poll_book.specs.Tables.{Tables}
use Rattle.office_core.specs.declared.event.Event.TheVariants.{Void}
use Rattle.office_core.specs.declared.event.EventAnswer.TheVariants as answer
use Rattle.office_core.specs.declared.event.RequestAnswer.TheVariants.{Kept}
use Rattle.office_core.specs.Errors.{refused_store}
use Rattle.office_core.specs.Keeping.{IsCopy}
use Rattle.office_core.specs.Loads.{known_named}
use Rattle.office_core.specs.Offices.{told_so}
use Rattle.office_core.specs.Standing.{is_store}
use Rattle.office_core.specs.Voids.{VoidsIn, voided, voiding_of}
use Rattle.office_core.proofs.Leaving.{At, Left, leaves_unused, tried_is}
use Rattle.office_core.proofs.Steps.{voided_goes}
use Rattle.office_core.proofs.Telling.{request_err}
use Rattle.office_core.proofs.Voiding.{applied_void_asked, new_void_asked}
use Rattle.office_core.proofs.office.Office.void_new.Goals as goal

pub returns-clause-goes : goal.returns-clause-goes
returns-clause-goes g c clean =
    let office = c.args.self.now in
    let holds : Tables → Type 0 = g.K.Neighbours.holds office.keeper in
    let known = office.points.items in
    let point = c.args.point.now in
    let slot = c.args.slot in
    let change : Change = c.in_ok-outcome.change in
    let request : RequestRow = record { caller = c.args.caller.now; key = c.args.key.now; body = body.Void point slot; outcome = c.in_ok-outcome.outcome } in
    let made : c.with_request.result ≡ record change { request = Some request } = c.with_request.ensures ∙ ap (λ r. record change { request = Some r }) c.in_ok-request.ensures in
    let clean_then = c.write.ensures.clean clean in
    let told : (kept : Tables) → holds kept → c.in_ok-outcome.outcome ≡ voided slot (voiding_of kept.voids (known_named known point) slot) =
    λ kept h. c.in_ok-outcome.ensures.outcome clean_then kept h ∙ (λ i. voided slot (voiding_of kept.voids (known_named (c.deref.ensures.value i) point) slot)) in
    let voids : (kept : Tables) → holds kept → IsCopy known kept → VoidsIn kept slot (voiding_of kept.voids (known_named known point) slot) change =
    λ kept h copy. subst (λ l. VoidsIn kept slot (voiding_of kept.voids (known_named l point) slot) change) c.deref.ensures.value
    (c.in_ok-outcome.ensures.change clean_then kept h (subst (λ l. IsCopy l kept) (sym c.deref.ensures.value) copy)) in
    let new : Tables → Type 0 = g.K.Neighbours.holds c.write.new.keeper in
    voided_goes holds office.site known office.matcher c.args.caller.now c.args.key.now point slot new c.in_ok-outcome.outcome told
    (λ kept table h copy sorted is_kept unused.
    subst new (ap (λ x. applied x kept) made ∙ applied_void_asked kept known point slot copy change request table sorted is_kept (voids kept h copy))
    (c.in_ok-write.ensures.kept clean kept (c.judge_void.ensures.same kept h)
    (subst (λ x. IsNew x kept) (sym made) (new_void_asked kept known point slot copy change request (voids kept h copy) unused))))

pub returns-clause-leaves : goal.returns-clause-leaves
returns-clause-leaves g c clean =
    let office = c.args.self.now in
    let holds : Tables → Type 0 = g.K.Neighbours.holds office.keeper in
    let known = office.points.items in
    let point = c.args.point.now in
    let slot = c.args.slot in
    let change : Change = c.in_ok-outcome.change in
    let request : RequestRow = record { caller = c.args.caller.now; key = c.args.key.now; body = body.Void point slot; outcome = c.in_ok-outcome.outcome } in
    let made : c.with_request.result ≡ record change { request = Some request } = c.with_request.ensures ∙ ap (λ r. record change { request = Some r }) c.in_ok-request.ensures in
    let clean_then = c.write.ensures.clean clean in
    let told : (kept : Tables) → holds kept → c.in_ok-outcome.outcome ≡ voided slot (voiding_of kept.voids (known_named known point) slot) =
    λ kept h. c.in_ok-outcome.ensures.outcome clean_then kept h ∙ (λ i. voided slot (voiding_of kept.voids (known_named (c.deref.ensures.value i) point) slot)) in
    let voids : (kept : Tables) → holds kept → IsCopy known kept → VoidsIn kept slot (voiding_of kept.voids (known_named known point) slot) change =
    λ kept h copy. subst (λ l. VoidsIn kept slot (voiding_of kept.voids (known_named l point) slot) change) c.deref.ensures.value
    (c.in_ok-outcome.ensures.change clean_then kept h (subst (λ l. IsCopy l kept) (sym c.deref.ensures.value) copy)) in
    let may : Tables → Type 0 = g.K.Neighbours.may_leave office.keeper in
    let may' : Tables → Type 0 = g.K.Neighbours.may_leave c.write.new.keeper in
    leaves_unused holds may may' office.site known office.matcher (c.args.caller.now, c.args.key.now) office.site known office.matcher (Void c.args.caller.now c.args.key.now point slot)
    (answer.Request (Kept true c.in_ok-outcome.outcome)) (answer.Request (Kept true c.in_ok-outcome.outcome)) false refl refl
    (λ at. voided_goes (At holds at) office.site known office.matcher c.args.caller.now c.args.key.now point slot (Left may may' at false) c.in_ok-outcome.outcome
    (λ kept h. told kept h.0)
    (λ kept table h copy sorted is_kept unused left m. inl (c.in_ok-write.ensures.leaves clean kept (c.judge_void.ensures.same kept h.0)
    (subst (λ x. IsNew x kept) (sym made) (new_void_asked kept known point slot copy change request (voids kept h.0 copy) unused)) left m
    ∙ ap (λ x. applied x kept) made ∙ applied_void_asked kept known point slot copy change request table sorted is_kept (voids kept h.0 copy))))

pub returns-in_err-write-clause-leaves : goal.returns-in_err-write-clause-leaves
returns-in_err-write-clause-leaves g c clean =
    let office = c.args.self.now in
    let holds : Tables → Type 0 = g.K.Neighbours.holds office.keeper in
    let known = office.points.items in
    let point = c.args.point.now in
    let slot = c.args.slot in
    let change : Change = c.in_ok-outcome.change in
    let request : RequestRow = record { caller = c.args.caller.now; key = c.args.key.now; body = body.Void point slot; outcome = c.in_ok-outcome.outcome } in
    let made : c.with_request.result ≡ record change { request = Some request } = c.with_request.ensures ∙ ap (λ r. record change { request = Some r }) c.in_ok-request.ensures in
    let clean_then = c.write.ensures.clean clean in
    let told : (kept : Tables) → holds kept → c.in_ok-outcome.outcome ≡ voided slot (voiding_of kept.voids (known_named known point) slot) =
    λ kept h. c.in_ok-outcome.ensures.outcome clean_then kept h ∙ (λ i. voided slot (voiding_of kept.voids (known_named (c.deref.ensures.value i) point) slot)) in
    let voids : (kept : Tables) → holds kept → IsCopy known kept → VoidsIn kept slot (voiding_of kept.voids (known_named known point) slot) change =
    λ kept h copy. subst (λ l. VoidsIn kept slot (voiding_of kept.voids (known_named l point) slot) change) c.deref.ensures.value
    (c.in_ok-outcome.ensures.change clean_then kept h (subst (λ l. IsCopy l kept) (sym c.deref.ensures.value) copy)) in
    let may : Tables → Type 0 = g.K.Neighbours.may_leave office.keeper in
    let may' : Tables → Type 0 = g.K.Neighbours.may_leave c.write.new.keeper in
    let e = refused_store c.in_err-write.field-0.0 in
    leaves_unused holds may may' office.site known office.matcher (c.args.caller.now, c.args.key.now) office.site known office.matcher (Void c.args.caller.now c.args.key.now point slot)
    (told_so c.from_residual-in_err-write.result) (answer.Request (Kept true c.in_ok-outcome.outcome)) true
    (ap is_store (request_err c.from_residual-in_err-write.result e c.from_residual-in_err-write.ensures.1)) refl
    (λ at. voided_goes (At holds at) office.site known office.matcher c.args.caller.now c.args.key.now point slot (Left may may' at true) c.in_ok-outcome.outcome
    (λ kept h. told kept h.0)
    (λ kept table h copy sorted is_kept unused left m. tried_is may (g.K.Neighbours.may_leave c.judge_void.new.keeper) (applied c.with_request.result kept) _ left
    (c.judge_void.ensures.leaves clean_then)
    (ap (λ x. applied x kept) made ∙ applied_void_asked kept known point slot copy change request table sorted is_kept (voids kept h.0 copy))
    (c.in_err-write.ensures.leaves clean kept (c.judge_void.ensures.same kept h.0)
    (subst (λ x. IsNew x kept) (sym made) (new_void_asked kept known point slot copy change request (voids kept h.0 copy) unused)) left m)))
