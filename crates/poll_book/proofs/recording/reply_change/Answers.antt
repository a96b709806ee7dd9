use Rattle.std.proofs.Common.{◌≡◌, ◌+◌, ◌∷◌, ◌++◌, [], ℕ, true, List, Option, Some, take, sym, ap, subst, ◌∙◌, arith}
use Rattle.std.specs.Prelude.{option_map, option_to_list, option_and_then}
use Rattle.std.proofs.lemmas.List.{take_more}
use Rattle.std.proofs.lemmas.List.Elements.{All-cons, All-nil}
use Rattle.poll_book.specs.declared.rows.PointRow.{PointRow}
use Rattle.poll_book.specs.declared.rows.Reading.{Reading}
use Rattle.poll_book.specs.declared.rows.TotalRow.{TotalRow}
use Rattle.poll_book.specs.declared.recording.Lacking.{Lacking}
use Rattle.poll_book.specs.Tables.{Key, marked, new_rows, sum_at}
use Rattle.poll_book.specs.Totals.{is_counter, total}
use Rattle.poll_book.specs.Changes.{as_row, as_sum, keyed, new_sums}
use Rattle.poll_book.proofs.Covered.{rows_more, sums_more}
use Rattle.poll_book.proofs.recording.reply_change.Goals as goal

pub loop-entry-preserved : goal.loop-entry-preserved
loop-entry-preserved g c =
    let inv = c.loop-entry.invariant in
    let covered = c.args.covered.now in
    let i = c.loop-entry.entry-index in
    let slot = c.args.slot in
    let entry = c.entry-item.result in
    let one : PointRow × List ℕ = (entry.0, c.as_slice.result.now) in
    let it = c.lacking_reading.ensures in
    let here : one ≡ entry = λ j. (entry.0, c.as_slice.ensures.value j) in
    let more : take (i + 1) covered ≡ take i covered ++ one ∷ [] =
    take_more covered i entry (omega (arith, c.loop-entry-test.true)) ∙ ap (λ (x : PointRow × List ℕ). take i covered ++ x ∷ []) (sym c.entry-item.is ∙ sym here) in
    let row_of : Lacking → Key × Reading = λ it. as_row it.reading in
    let rows_found = option_to_list (option_map row_of c.in_ok-found.found) in
    let sum_of : Lacking → Option TotalRow = λ it. it.total in
    let sums_found = option_to_list (option_map as_sum (option_and_then sum_of c.in_ok-found.found)) in
    record {
      readings = λ clean kept holds.
          c.in_ok-push_found.ensures.readings
          ∙ ap (λ l. l ++ rows_found) (inv.readings (it.clean clean) kept holds)
          ∙ ap (λ l. new_rows kept.readings (marked kept.voids (keyed slot (take i covered))) ++ l) (c.in_ok-found.ensures.reading clean kept (inv.same kept holds))
          ∙ rows_more kept.voids kept.readings slot covered i one more;
      totals = λ clean kept holds sorted stored.
          let Stored = λ (x : PointRow × List ℕ). is_counter x.0.point.role ≡ true → sum_at kept.totals x.0.number ≡ Some (total x.0 kept.readings) in
          let own : Stored one = subst Stored (sym here) (subst Stored (sym c.entry-item.is) (stored i entry (omega (arith, c.loop-entry-test.true)))) in
          c.in_ok-push_found.ensures.totals
          ∙ ap (λ l. l ++ sums_found) (inv.totals (it.clean clean) kept holds sorted stored)
          ∙ ap (λ l. new_sums kept.voids kept.readings slot (take i covered) ++ l) (c.in_ok-found.ensures.total clean kept (inv.same kept holds) sorted (All-cons Stored one [] own (All-nil Stored)))
          ∙ sums_more kept.voids kept.readings slot covered i one more;
      few = omega (arith, inv.few, c.in_ok-push_found.ensures.few);
      looks = (omega (arith, inv.looks.0, it.looks.0), omega (arith, inv.looks.1, it.looks.1));
      same = λ kept holds. it.same kept (inv.same kept holds);
      counted = c.in_ok-found.ensures.cause.2 ∙ inv.counted;
      clean = λ clean. inv.clean (it.clean clean);
      crash = λ clean left may. inv.crash (it.clean clean) left (it.crash clean left may);
    }
