use Rattle.std.proofs.Common.{◌≡◌, ℕ, true, [], ◌∷◌, Some, sym, ap, ◌∙◌, subst, List}
use Rattle.std.specs.Prelude.{option_map, option_to_list}
use Rattle.std.specs.List.{cons_option}
use Rattle.std.proofs.lemmas.List.Elements.{All-head}
use Rattle.poll_book.specs.declared.rows.PointRow.{PointRow}
use Rattle.poll_book.specs.Tables.{is_void, marked_one, reading_at, sum_at}
use Rattle.poll_book.specs.Totals.{counted_number, is_counter, total}
use Rattle.poll_book.specs.Changes.{as_sum, keyed_one}
use Rattle.poll_book.proofs.Lacked.{its_number, its_own, lacked, none_there, of_counter, uncounted}
use Rattle.poll_book.proofs.recording.lacking_reading.Goals as goal
use Rattle.poll_book.proofs.recording.lacking_reading.Goals.{in-Some+in_ok-total_with-in-Some, in-None}

pub returns-clause-total : goal.returns-clause-total
returns-clause-total g c clean kept holds sorted stored =
    let known = c.args.point.now in
    let words = c.args.words.now in
    let slot = c.args.slot in
    let table = kept.readings in
    let held = c.has_reading.ensures.same kept holds in
    elim c.match-value.branch [
      | in-Some+in_ok-total_with-in-Some w ↦
          let total_clean = subst g.N.Neighbours.is_clean w.keeper-is clean in
          let value_clean = w.total_with.ensures.clean total_clean in
          let counts = sym (c.in_ok-value.ensures.value value_clean kept held) ∙ w.in-Some.is in
          let none = none_there (reading_at table (known.number, slot)) (sym (c.in_ok-has_reading.ensures.value (c.counted_in.ensures.clean value_clean) kept holds) ∙ c.if-branch.false) in
          let Stored = λ (x : PointRow × List ℕ). is_counter x.0.point.role ≡ true → sum_at kept.totals x.0.number ≡ Some (total x.0 kept.readings) in
          let own = its_own (is_void kept.voids (known.number, slot)) (counted_number known.point words) w.in-Some.value counts in
          let row = w.in_ok-total_with-in-Some.ensures.value total_clean kept (c.counted_in.ensures.same kept held) sorted
          (All-head Stored (known, words) [] stored (of_counter known.point words w.in-Some.value own)) none
          (marked_one kept.voids (keyed_one slot (known, words))).1 (its_number kept.voids slot known words w.in-Some.value counts) in
          ap (λ o. option_to_list (option_map as_sum o)) w.total-is ∙ ap (λ (p : ℕ × ℕ). p ∷ []) row
          ∙ sym (ap (λ o. cons_option o []) (lacked kept.voids table slot known words w.in-Some.value none counts))
      | in-None w ↦
          let value_clean = subst g.N.Neighbours.is_clean w.keeper-is clean in
          ap (λ o. option_to_list (option_map as_sum o)) w.total-is
          ∙ sym (ap (λ o. cons_option o []) (uncounted kept.voids table slot known words (sym (c.in_ok-value.ensures.value value_clean kept held) ∙ w.in-None.is)))
    ]
