-- Readings that are put in from the last to the first, some at a time.
use Rattle.std.proofs.Common.{◌≡◌, inl, inr, ℕ, zero, suc, List, [], ◌∷◌, ◌++◌, None, refl, sym, ap, subst, ◌∙◌, drop}
use Rattle.std.specs.FinMap.Entries as rows
use Rattle.std.specs.Ordering.{eq_by_cmp}
use Rattle.std.proofs.lemmas.Bool.{cases_Bool}
use Rattle.poll_book.specs.declared.rows.ReadingRow.{ReadingRow}
use Rattle.poll_book.specs.Tables.{Key, Readings, key_cmp, reading_at, with_row, with_rows}
use Rattle.poll_book.specs.Changes.{HasWords, KeepWords, as_rows}
use Rattle.office_store.proofs.Slots.{keys_total}

module _ (table : Readings) where
  as_before : (q : Key) (added : Readings) → reading_at added q ≡ None → reading_at (with_rows added table) q ≡ reading_at table q
  as_before q [] none = refl
  as_before q (e ∷ added) none = rows.find-put key_cmp keys_total q e.0 e.1 (with_rows added table) ∙ elim (cases_Bool (eq_by_cmp key_cmp q e.0)) [
    | inl same ↦ absurd (let bad = rw same at none in cc)
    | inr apart ↦ rw apart (as_before q added (rw apart at none))
  ]

  pub new_left : (added : List ReadingRow) (i : ℕ) → KeepWords table (as_rows added) → KeepWords table (as_rows (drop i added))
  new_left added zero new = new
  new_left [] (suc i) new = new
  new_left (e ∷ added) (suc i) new = new_left added i new.2

  pub new_here : (row : ReadingRow) (added : List ReadingRow) → KeepWords table (as_rows (row ∷ added)) → HasWords row.words (reading_at (with_rows (as_rows added) table) (row.point, row.slot))
  new_here row added new = subst (HasWords row.words) (sym (as_before (row.point, row.slot) (as_rows added) new.1)) new.0

  -- rows behind others are put in before them
  pub put_behind : (front added : List ReadingRow) → with_rows (as_rows (front ++ added)) table ≡ with_rows (as_rows front) (with_rows (as_rows added) table)
  put_behind [] added = refl
  put_behind (e ∷ front) added = ap (with_row (e.point, e.slot) (record { words = e.words; counted = e.counted })) (put_behind front added)

  both_lack : (q : Key) (front added : List ReadingRow) → reading_at (as_rows (front ++ added)) q ≡ None → (reading_at (as_rows front) q ≡ None) × (reading_at (as_rows added) q ≡ None)
  both_lack q [] added none = (refl, none)
  both_lack q (e ∷ front) added none = elim (cases_Bool (eq_by_cmp key_cmp q (e.point, e.slot))) [
    | inl same ↦ absurd (let bad = rw same at none in cc)
    | inr apart ↦ (let more = both_lack q front added (rw apart at none) in (rw apart more.0, more.1))
  ]

  -- the rows before others change no words once those are put in
  pub keep_before : (front added : List ReadingRow) → KeepWords table (as_rows (front ++ added)) → KeepWords (with_rows (as_rows added) table) (as_rows front)
  keep_before [] added new = tt
  keep_before (e ∷ front) added new =
      let none = both_lack (e.point, e.slot) front added new.1 in
      (subst (HasWords e.words) (sym (as_before (e.point, e.slot) (as_rows added) none.1)) new.0, none.0, keep_before front added new.2)

  -- and those behind them change none of the table
  pub keep_behind : (front added : List ReadingRow) → KeepWords table (as_rows (front ++ added)) → KeepWords table (as_rows added)
  keep_behind [] added new = new
  keep_behind (e ∷ front) added new = keep_behind front added new.2
