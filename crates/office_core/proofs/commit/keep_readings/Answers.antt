use Rattle.std.proofs.Common.{◌≡◌, ◌⊎◌, inl, inr, length, sym, ap, ◌∙◌, subst}
use Rattle.std.proofs.lemmas.List.{length-map}
use Rattle.poll_book.specs.Changes.{as_row, keyed}
use Rattle.office_core.specs.Keeping.{with_given}
use Rattle.office_core.proofs.Marks.{count_marked}
use Rattle.office_core.proofs.Newness.{IsReplied, applied_replied, left_refused, new_replied, totals_had}
use Rattle.office_core.proofs.commit.keep_readings.Goals as goal

pub returns-clause-kept : goal.returns-clause-kept
returns-clause-kept g c clean kept h counted are =
    let slot = c.args.slot in
    let covered = c.args.covered.now in
    let change = c.in_ok-change.change in
    let told = c.in_ok-change.ensures in
    let before = c.write.ensures.clean clean in
    let is : IsReplied change kept slot covered = record {
      alone = told.alone;
      readings = told.readings before kept h;
      totals = told.totals before kept h counted.by_key (totals_had kept slot covered counted are);
    } in
    subst (g.K.Neighbours.holds c.write.new.keeper) (applied_replied change kept slot covered is counted are)
    (c.in_ok-write.ensures.kept clean kept (c.reply_change.ensures.same kept h) (new_replied change kept slot covered is counted are))

pub returns-clause-leaves : goal.returns-clause-leaves
returns-clause-leaves g c clean kept h counted are left m =
    let slot = c.args.slot in
    let covered = c.args.covered.now in
    let change = c.in_ok-change.change in
    let told = c.in_ok-change.ensures in
    let before = c.write.ensures.clean clean in
    let is : IsReplied change kept slot covered = record {
      alone = told.alone;
      readings = told.readings before kept h;
      totals = told.totals before kept h counted.by_key (totals_had kept slot covered counted are);
    } in
    inl (c.in_ok-write.ensures.leaves clean kept (c.reply_change.ensures.same kept h) (new_replied change kept slot covered is counted are) left m
    ∙ applied_replied change kept slot covered is counted are)

pub returns-in_err-write-clause-leaves : goal.returns-in_err-write-clause-leaves
returns-in_err-write-clause-leaves g c clean kept h counted are left m =
    let may = g.K.Neighbours.may_leave c.args.keeper.now in
    let slot = c.args.slot in
    let covered = c.args.covered.now in
    let change = c.in_ok-change.change in
    let told = c.in_ok-change.ensures in
    let before = c.write.ensures.clean clean in
    let is : IsReplied change kept slot covered = record {
      alone = told.alone;
      readings = told.readings before kept h;
      totals = told.totals before kept h counted.by_key (totals_had kept slot covered counted are);
    } in
    let tried = c.in_err-write.ensures.leaves clean kept (c.reply_change.ensures.same kept h) (new_replied change kept slot covered is counted are) left m in
    let lost : may left ⊎ (left ≡ with_given (keyed slot covered) kept) =
    elim tried [
      | inl was ↦ inl (c.reply_change.ensures.crash before left was)
      | inr made ↦ inr (made ∙ applied_replied change kept slot covered is counted are)
    ] in
    left_refused may kept (with_given (keyed slot covered) kept) left c.from_residual-in_err-write.result c.from_residual-in_err-write.ensures.0 lost

pub returns-clause-count : goal.returns-clause-count
returns-clause-count g c clean kept h =
    ap length c.as_slice.ensures ∙ sym (length-map c.in_ok-change.change.readings as_row) ∙ ap length (c.in_ok-change.ensures.readings (c.write.ensures.clean clean) kept h)
    ∙ count_marked kept.voids kept.readings (keyed c.args.slot c.args.covered.now)

pub returns-then-count-eq0-clause-count : goal.returns-then-count-eq0-clause-count
returns-then-count-eq0-clause-count g c clean kept h =
    sym c.if-count-eq0.true ∙ ap length c.as_slice.ensures ∙ sym (length-map c.in_ok-change.change.readings as_row)
    ∙ ap length (c.in_ok-change.ensures.readings clean kept h) ∙ count_marked kept.voids kept.readings (keyed c.args.slot c.args.covered.now)
