-- The end of a point's readings: the slot that each stands before, and that stands just behind one.
use Rattle.std.proofs.Common.{◌≡◌, ℕ, ◌+◌, ◌-◌, ◌<◌, Bool, true, false, cond, eqb, get_or, [], ◌∷◌, Some, inl, inr, refl, sym, ap, ◌∙◌, arith}
use Rattle.std.specs.Prelude.{All, is_some}
use Rattle.std.specs.List.{last_or}
use Rattle.std.specs.Ordering.{is_eq}
use Rattle.std.specs.declared.cmp.Ordering.{Ordering}
use Rattle.std.specs.declared.cmp.Ordering.TheVariants.{Less, Equal, Greater}
use Rattle.std.proofs.lemmas.Bool.{eq-eqb, eqb-true}
use Rattle.std.proofs.lemmas.List.Elements.{All-head, All-tail, All-weaker}
use Rattle.poll_book.specs.declared.rows.Reading.{Reading}
use Rattle.poll_book.specs.Tables.{AreByKey, Key, Readings, key_cmp, reading_at}
use Rattle.poll_book.specs.Totals.{last_of}
use Rattle.poll_book.specs.Histories.{end_of, own, slot_behind}
use Rattle.poll_book.proofs.Puts.{IsAbove}
use Rattle.poll_book.proofs.Sides.{all_higher, both_left, both_right, higher_is}
use Rattle.poll_book.proofs.Tabled.{exact_keys}
use Rattle.office_store.specs.Ends.{IsEndOf}
use Rattle.office_store.proofs.LastRow.{IsJustBehind}

module _ (point stop : ℕ) where
  abbrev IsBefore : Key × Reading → Type 0
  IsBefore row = row.0.0 ≡ point → row.0.1 < stop

  abbrev IsOther : Key × Reading → Type 0
  IsOther row = row.0.0 ≡ point → ⊥

  -- a point has no row among those of others
  none_own : (rows : Readings) → All IsOther rows → own point rows ≡ []
  none_own [] other = refl
  none_own (row ∷ rows) other = by (eqb row.0.0 point) refl (none_own rows (All-tail IsOther row rows other))
    where
      by : (b : Bool) → eqb row.0.0 point ≡ b → own point rows ≡ [] → cond b (row ∷ own point rows) (own point rows) ≡ []
      by true mine none = absurd (All-head IsOther row rows other (eqb-true row.0.0 point mine))
      by false is none = none

  module _ (row : Key × Reading) (rows : Readings) (sorted : AreByKey (row ∷ rows)) (before : All IsBefore (row ∷ rows)) where
    before_rest : All IsBefore rows
    before_rest = All-tail IsBefore row rows before

    -- where others of the point follow, it ends where they do
    ends_later : end_of point rows ≡ stop → end_of point (row ∷ rows) ≡ stop
    ends_later ends = by (eqb row.0.0 point) refl (own point rows) ends
      where
        by : (b : Bool) → eqb row.0.0 point ≡ b → (others : Readings) → slot_behind (last_of others) ≡ stop → slot_behind (last_of (cond b (row ∷ others) others)) ≡ stop
        by false other others is = is
        by true mine [] is =
            let zero : 0 ≡ stop = is in
            let low = All-head IsBefore row rows before (eqb-true row.0.0 point mine) in
            absurd (omega (arith, low, zero))
        by true mine (other ∷ others) is = is

    -- where the row stands just before the slot, none of the point follows
    ends_here : (point, stop - 1) ≡ row.0 → end_of point (row ∷ rows) ≡ stop
    ends_here same =
        let mine : row.0.0 ≡ point = sym (ap (λ (key : Key). key.0) same) in
        let at : stop - 1 ≡ row.0.1 = ap (λ (key : Key). key.1) same in
        let low : row.0.1 < stop = All-head IsBefore row rows before mine in
        let above : All (IsAbove (point, stop - 1)) rows = all_higher (point, stop - 1) row.0 rows same (both_left _ _ sorted) in
        let none : own point rows ≡ [] = none_own rows (λ k d within own.
        let high = higher_is point (stop - 1) (get_or rows k d).0 (above k d within) own in
        let less = before_rest k d within own in
        omega (arith, high, less)) in
        let behind : row.0.1 + 1 ≡ stop = omega (arith, at, low) in
        ap (λ b. slot_behind (last_of (cond b (row ∷ own point rows) (own point rows)))) (eq-eqb row.0.0 point mine)
        ∙ ap (λ l. slot_behind (last_or (Some row) l)) none
        ∙ behind

  -- a reading just before the slot is the last
  ends_behind : (table : Readings) → AreByKey table → All IsBefore table → is_some (reading_at table (point, stop - 1)) ≡ true → end_of point table ≡ stop
  ends_behind [] sorted before found = absurd (cc)
  ends_behind (row ∷ rows) sorted before found = by (key_cmp (point, stop - 1) row.0) refl found (ends_behind rows (both_right _ _ sorted) (before_rest row rows sorted before))
    where
      by : (o : Ordering) → key_cmp (point, stop - 1) row.0 ≡ o → is_some (cond (is_eq o) (Some row.1) (reading_at rows (point, stop - 1))) ≡ true
          → (is_some (reading_at rows (point, stop - 1)) ≡ true → end_of point rows ≡ stop) → end_of point (row ∷ rows) ≡ stop
      by Less is there rest = ends_later row rows sorted before (rest there)
      by Greater is there rest = ends_later row rows sorted before (rest there)
      by Equal is there rest = ends_here row rows sorted before (exact_keys (point, stop - 1) row.0 is)

  -- so the slot is the end of the point
  pub end_is : (table : Readings) → AreByKey table → IsEndOf point stop table → IsJustBehind point stop table → stop ≡ end_of point table
  end_is table sorted before (inl zero) =
      let none : own point table ≡ [] = none_own table (All-weaker IsBefore IsOther (λ row low mine. let less = low mine in omega (arith, less, zero)) table before) in
      zero ∙ sym (ap (λ l. slot_behind (last_of l)) none)
  end_is table sorted before (inr found) = sym (ends_behind table sorted before found)
