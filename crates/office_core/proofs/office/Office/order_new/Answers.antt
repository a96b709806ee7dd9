use Rattle.std.proofs.Common.{◌≡◌, ◌∙◌, inl, true, false, [], refl, ap, subst}
use Rattle.std.specs.Int.{w128}
use Rattle.std.proofs.lemmas.Int.{to_z-of_z}
use Rattle.poll_book.specs.declared.requests.Body.TheVariants as body
use Rattle.poll_book.specs.declared.requests.RequestRow.{RequestRow}
use Rattle.poll_book.specs.Changes.{applied}
use Rattle.poll_book.specs.Orders.{last_order}
use Rattle.poll_book.specs.Tables.{Tables}
use Rattle.office_core.specs.declared.event.Event.TheVariants.{Order}
use Rattle.office_core.specs.declared.event.EventAnswer.TheVariants as answer
use Rattle.office_core.specs.declared.event.RequestAnswer.TheVariants.{Kept}
use Rattle.office_core.specs.Errors.{refused_store}
use Rattle.office_core.specs.Keeping.{asked_change}
use Rattle.office_core.specs.Loads.{known_named}
use Rattle.office_core.specs.Orders.{Ordering, ordered, ordering_of, ordering_row}
use Rattle.office_core.specs.Offices.{told_so}
use Rattle.office_core.specs.Standing.{is_store}
use Rattle.office_core.proofs.Leaving.{At, Left, leaves_unused, tried_is}
use Rattle.office_core.proofs.Newness.{applied_ordered, new_ordered}
use Rattle.office_core.proofs.Steps.{ordered_goes}
use Rattle.office_core.proofs.Telling.{request_err}
use Rattle.office_core.proofs.office.Office.order_new.Goals as goal

pub returns-clause-goes : goal.returns-clause-goes
returns-clause-goes g c clean =
    let office = c.args.self.now in
    let holds = g.K.Neighbours.holds in
    let old : Tables → Type 0 = holds office.keeper in
    let new : Tables → Type 0 = holds c.write.new.keeper in
    let still : (kept : Tables) → old kept → holds c.judge_order.new.keeper kept = c.judge_order.ensures.same in
    let known = office.points.items in
    let point = c.args.point.now in
    let value = c.args.value in
    let request : RequestRow = record { caller = c.args.caller.now; key = c.args.key.now; body = body.Order point value; outcome = c.in_ok-outcome.outcome } in
    let of : Tables → Ordering = λ kept. ordering_of (last_order kept.settings) (known_named known point) value in
    let is_value = to_z-of_z w128 c.args.value c.ranges.value in
    let is_request : c.in_ok-request.request ≡ request = c.in_ok-request.ensures ∙ (λ i. record request { body = body.Order point (is_value i) }) in
    let row : (kept : Tables) → old kept → c.in_ok-outcome.setting ≡ ordering_row (last_order kept.settings) (of kept) =
    λ kept h. c.in_ok-outcome.ensures.row (c.write.ensures.clean clean) kept h
    ∙ (λ i. ordering_row (last_order kept.settings) (ordering_of (last_order kept.settings) (known_named (c.deref.ensures.value i) point) (is_value i))) in
    let change : (kept : Tables) → old kept → c.request_change-change.result ≡ asked_change [] (ordering_row (last_order kept.settings) (of kept)) request =
    λ kept h. c.request_change-change.ensures ∙ (λ i. asked_change (c.new.ensures.items i) (row kept h i) (is_request i)) in
    ordered_goes old office.site known office.matcher c.args.caller.now c.args.key.now point value new c.in_ok-outcome.outcome
    (λ kept h. c.in_ok-outcome.ensures.outcome (c.write.ensures.clean clean) kept h
    ∙ (λ i. ordered (last_order kept.settings) (ordering_of (last_order kept.settings) (known_named (c.deref.ensures.value i) point) (is_value i))))
    (λ kept h copy unused. subst new (applied_ordered (of kept) request c.request_change-change.result kept (change kept h))
    (c.in_ok-write.ensures.kept clean kept (still kept h) (new_ordered (of kept) request c.request_change-change.result kept (change kept h) copy.1 unused)))

pub returns-clause-leaves : goal.returns-clause-leaves
returns-clause-leaves g c clean =
    let office = c.args.self.now in
    let holds : Tables → Type 0 = g.K.Neighbours.holds office.keeper in
    let may : Tables → Type 0 = g.K.Neighbours.may_leave office.keeper in
    let may' : Tables → Type 0 = g.K.Neighbours.may_leave c.write.new.keeper in
    let known = office.points.items in
    let point = c.args.point.now in
    let value = c.args.value in
    let request : RequestRow = record { caller = c.args.caller.now; key = c.args.key.now; body = body.Order point value; outcome = c.in_ok-outcome.outcome } in
    let of : Tables → Ordering = λ kept. ordering_of (last_order kept.settings) (known_named known point) value in
    let is_value = to_z-of_z w128 c.args.value c.ranges.value in
    let is_request : c.in_ok-request.request ≡ request = c.in_ok-request.ensures ∙ (λ i. record request { body = body.Order point (is_value i) }) in
    let row : (kept : Tables) → holds kept → c.in_ok-outcome.setting ≡ ordering_row (last_order kept.settings) (of kept) =
    λ kept h. c.in_ok-outcome.ensures.row (c.write.ensures.clean clean) kept h
    ∙ (λ i. ordering_row (last_order kept.settings) (ordering_of (last_order kept.settings) (known_named (c.deref.ensures.value i) point) (is_value i))) in
    let change : (kept : Tables) → holds kept → c.request_change-change.result ≡ asked_change [] (ordering_row (last_order kept.settings) (of kept)) request =
    λ kept h. c.request_change-change.ensures ∙ (λ i. asked_change (c.new.ensures.items i) (row kept h i) (is_request i)) in
    let outcome : (kept : Tables) → holds kept → c.in_ok-outcome.outcome ≡ ordered (last_order kept.settings) (of kept) =
    λ kept h. c.in_ok-outcome.ensures.outcome (c.write.ensures.clean clean) kept h
    ∙ (λ i. ordered (last_order kept.settings) (ordering_of (last_order kept.settings) (known_named (c.deref.ensures.value i) point) (is_value i))) in
    leaves_unused holds may may' office.site known office.matcher (c.args.caller.now, c.args.key.now) office.site known office.matcher (Order c.args.caller.now c.args.key.now point value)
    (answer.Request (Kept true c.in_ok-outcome.outcome)) (answer.Request (Kept true c.in_ok-outcome.outcome)) false refl refl
    (λ at. ordered_goes (At holds at) office.site known office.matcher c.args.caller.now c.args.key.now point value (Left may may' at false) c.in_ok-outcome.outcome
    (λ kept h. outcome kept h.0)
    (λ kept h copy unused left m. inl (c.in_ok-write.ensures.leaves clean kept (c.judge_order.ensures.same kept h.0)
    (new_ordered (of kept) request c.request_change-change.result kept (change kept h.0) copy.1 unused) left m
    ∙ applied_ordered (of kept) request c.request_change-change.result kept (change kept h.0))))

pub returns-in_err-write-clause-leaves : goal.returns-in_err-write-clause-leaves
returns-in_err-write-clause-leaves g c clean =
    let office = c.args.self.now in
    let holds : Tables → Type 0 = g.K.Neighbours.holds office.keeper in
    let may : Tables → Type 0 = g.K.Neighbours.may_leave office.keeper in
    let may' : Tables → Type 0 = g.K.Neighbours.may_leave c.write.new.keeper in
    let known = office.points.items in
    let point = c.args.point.now in
    let value = c.args.value in
    let request : RequestRow = record { caller = c.args.caller.now; key = c.args.key.now; body = body.Order point value; outcome = c.in_ok-outcome.outcome } in
    let of : Tables → Ordering = λ kept. ordering_of (last_order kept.settings) (known_named known point) value in
    let is_value = to_z-of_z w128 c.args.value c.ranges.value in
    let is_request : c.in_ok-request.request ≡ request = c.in_ok-request.ensures ∙ (λ i. record request { body = body.Order point (is_value i) }) in
    let row : (kept : Tables) → holds kept → c.in_ok-outcome.setting ≡ ordering_row (last_order kept.settings) (of kept) =
    λ kept h. c.in_ok-outcome.ensures.row (c.write.ensures.clean clean) kept h
    ∙ (λ i. ordering_row (last_order kept.settings) (ordering_of (last_order kept.settings) (known_named (c.deref.ensures.value i) point) (is_value i))) in
    let change : (kept : Tables) → holds kept → c.request_change-change.result ≡ asked_change [] (ordering_row (last_order kept.settings) (of kept)) request =
    λ kept h. c.request_change-change.ensures ∙ (λ i. asked_change (c.new.ensures.items i) (row kept h i) (is_request i)) in
    let outcome : (kept : Tables) → holds kept → c.in_ok-outcome.outcome ≡ ordered (last_order kept.settings) (of kept) =
    λ kept h. c.in_ok-outcome.ensures.outcome (c.write.ensures.clean clean) kept h
    ∙ (λ i. ordered (last_order kept.settings) (ordering_of (last_order kept.settings) (known_named (c.deref.ensures.value i) point) (is_value i))) in
    let e = refused_store c.in_err-write.field-0.0 in
    leaves_unused holds may may' office.site known office.matcher (c.args.caller.now, c.args.key.now) office.site known office.matcher (Order c.args.caller.now c.args.key.now point value)
    (told_so c.from_residual-in_err-write.result) (answer.Request (Kept true c.in_ok-outcome.outcome)) true
    (ap is_store (request_err c.from_residual-in_err-write.result e c.from_residual-in_err-write.ensures.1)) refl
    (λ at. ordered_goes (At holds at) office.site known office.matcher c.args.caller.now c.args.key.now point value (Left may may' at true) c.in_ok-outcome.outcome
    (λ kept h. outcome kept h.0)
    (λ kept h copy unused left m. tried_is may (g.K.Neighbours.may_leave c.judge_order.new.keeper) (applied c.request_change-change.result kept) _ left
    (c.judge_order.ensures.leaves (c.write.ensures.clean clean))
    (applied_ordered (of kept) request c.request_change-change.result kept (change kept h.0))
    (c.in_err-write.ensures.leaves clean kept (c.judge_order.ensures.same kept h.0)
    (new_ordered (of kept) request c.request_change-change.result kept (change kept h.0) copy.1 unused) left m)))
