-- Histories that have readings of the same slots with the same words have the same readings.
use Rattle.std.proofs.Common.{◌≡◌, ℕ, true, false, List, Option, Some, None, is_some, refl, sym, ap, ◌∙◌, subst}
use Rattle.std.specs.Prelude.{Contains}
use Rattle.std.specs.FinMap.Entries as rows
use Rattle.poll_book.specs.declared.rows.PointRow.{PointRow}
use Rattle.poll_book.specs.declared.rows.Reading.{Reading}
use Rattle.poll_book.specs.Tables.{Key, key_cmp, reading_at}
use Rattle.poll_book.specs.Totals.{is_counted}
use Rattle.poll_book.proofs.Tabled.{keys_total, exact_keys}
use Rattle.office_core.specs.History.{History, points, readings}
use Rattle.office_core.specs.Legal.{Legal}
use Rattle.office_core.specs.AskedAgain.{HaveSameSlots, AgreeOnWords}
use Rattle.office_core.proofs.BySlot.{readings_sorted}
use Rattle.office_core.proofs.FirstArrivals.{first_arrival}
use Rattle.office_core.proofs.Loaded.{numbered_points}
use Rattle.office_core.proofs.OnePoint.{one_point}
use Rattle.office_core.proofs.SameArrivals.{row_known}

module _ (one other : History) (legal : Legal one) (legal_other : Legal other) (known : points one ≡ points other) (slots : HaveSameSlots one other) (words : AgreeOnWords one other) where
  -- the first words that came for a slot are the same
  one_reading : (point slot : ℕ) (x y : Reading) → reading_at (readings one) (point, slot) ≡ Some x → reading_at (readings other) (point, slot) ≡ Some y → x ≡ y
  one_reading point slot x y e f =
      let r = (first_arrival one point slot x legal).0 e in
      let o = (first_arrival other point slot y legal_other).0 f in
      let number : r.row.number ≡ o.row.number = r.number ∙ sym o.number in
      let same : r.words ≡ o.words = words r.earlier o.earlier r.c r.n o.c o.n r.unit o.unit r.row o.row slot r.words o.words r.came r.gave o.came o.gave number in
      let there = row_known other o.c o.n o.unit o.earlier o.row slot o.words o.came o.gave in
      let row : r.row ≡ o.row =
      one_point 0 (points one) r.row o.row (numbered_points one) (row_known one r.c r.n r.unit r.earlier r.row slot r.words r.came r.gave)
      (subst (λ (l : List PointRow). Contains l o.row) (sym known) there) number in
      r.is ∙ (λ i. record { words = same i; counted = is_counted (row i).point (same i) }) ∙ sym o.is

  pub same_slots : readings one ≡ readings other
  same_slots =
      rows.same_entries key_cmp keys_total exact_keys (readings one) (readings other) (readings_sorted one) (readings_sorted other)
      (λ key. by key (reading_at (readings one) key) (reading_at (readings other) key) refl refl)
    where
      by : (key : Key) (a b : Option Reading) → reading_at (readings one) key ≡ a → reading_at (readings other) key ≡ b → a ≡ b
      by key None None e f = refl
      by key (Some x) None e f =
          let no : false ≡ true = sym (ap is_some f) ∙ (slots key.0 key.1).0 (ap is_some e) in absurd (cc)
      by key None (Some y) e f =
          let no : false ≡ true = sym (ap is_some e) ∙ (slots key.0 key.1).1 (ap is_some f) in absurd (cc)
      by key (Some x) (Some y) e f = ap Some (one_reading key.0 key.1 x y e f)
