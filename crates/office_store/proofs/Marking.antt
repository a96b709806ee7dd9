-- Readings that are marked by the slots that an answer showed are marked by the voids.
use Rattle.std.proofs.Common.{◌≡◌, ℕ, List, [], ◌∷◌, map, Bool, true, ◌&&◌, not, eqb, leb, Result, Ok, Err, Vec, Global, IfOk, All, ap, ap₂, refl, subst, sym, ◌∙◌}
use Rattle.std.specs.BTreeSet.{BTreeSet, contains}
use Rattle.std.specs.List.{AllByRecursion}
use Rattle.std.specs.Ordering.{nat_cmp}
use Rattle.std.proofs.lemmas.Bool.{and_parts, eqb-true}
use Rattle.std.proofs.lemmas.List.Elements.{All-from_recursion, All-same, All-weaker, filter_passes, recursion_from_All}
use Rattle.point_list.specs.declared.point.Point.{Point}
use Rattle.poll_book.specs.declared.rows.PointRow.{PointRow}
use Rattle.poll_book.specs.declared.rows.Reading.{Reading}
use Rattle.poll_book.specs.declared.rows.ReadingRow.{ReadingRow}
use Rattle.poll_book.specs.declared.shown.ShownReading.{ShownReading}
use Rattle.poll_book.specs.Changes.{as_row, as_rows}
use Rattle.poll_book.specs.Showing.{Shown, as_shown, with_marks}
use Rattle.poll_book.specs.Tables.{Key, Readings, Voids, is_between, is_void, readings_between}
use Rattle.poll_book.specs.Totals.{is_counted}
use Rattle.office_store.specs.Counting.{IsShownOf, MayBeOf, StandsBetween, marked_by}
use Rattle.office_store.specs.Voids.{AreVoidsOf}

abbrev IsOf : ℕ → Key × Reading → Type 0
IsOf number e = e.0.0 ≡ number

-- readings between two slots are of their point
own_rows : (number from to : ℕ) (table : Readings) (rows : List ReadingRow) → as_rows rows ≡ readings_between number from to table → AllByRecursion (IsOf number) (as_rows rows)
own_rows number from to table rows is =
    recursion_from_All (IsOf number) (as_rows rows)
    (All-same (IsOf number) (as_rows rows) (readings_between number from to table) is
    (All-weaker (λ (e : Key × Reading). is_between number from to e.0 ≡ true) (IsOf number) own (readings_between number from to table)
    (filter_passes (λ (e : Key × Reading). is_between number from to e.0) table)))
  where
    own : (e : Key × Reading) → is_between number from to e.0 ≡ true → IsOf number e
    own e within =
        let a = and_parts (eqb e.0.0 number && leb from e.0.1) (leb e.0.1 to) within in
        eqb-true e.0.0 number (and_parts (eqb e.0.0 number) (leb from e.0.1) a.0).0

module _ (known : PointRow) (first last : ℕ) (voids : Voids) (slots : BTreeSet ℕ) (are : AreVoidsOf known.number first last voids slots) where
  abbrev shows : ℕ → Bool
  shows = contains nat_cmp slots

  abbrev is_voided : ℕ → Bool
  is_voided slot = is_void voids (known.number, slot)

  values : (rows : List ReadingRow) → AllByRecursion (IsOf known.number) (as_rows rows) → AllByRecursion (StandsBetween first last) rows → map as_shown (map (marked_by shows) rows) ≡ with_marks voids (as_rows rows)
  values [] own stand = refl
  values (row ∷ rows) own stand =
      let same : shows row.slot ≡ is_void voids (row.point, row.slot) = are row.slot stand.0.0 stand.0.1 ∙ ap (λ n. is_void voids (n, row.slot)) (sym own.0) in
      ap₂ (λ (b : Bool) (l : List Shown). (as_row row, b) ∷ l) same (values rows own.1 stand.1)

  one : (row : ReadingRow) → StandsBetween first last row → MayBeOf known.point shows row → IsShownOf known.point is_voided (marked_by shows row)
  one row stand may =
      let same : shows row.slot ≡ is_voided row.slot = are row.slot stand.0 stand.1 in
      record {
        may_be = record {
          registers = may.registers;
          counts = may.counts ∙ ap (λ (b : Bool). is_counted known.point row.words && not b) same;
        };
        voided = same;
      }

  each : (rows : List ReadingRow) → AllByRecursion (StandsBetween first last) rows → AllByRecursion (MayBeOf known.point shows) rows → AllByRecursion (IsShownOf known.point is_voided) (map (marked_by shows) rows)
  each [] stand may = tt
  each (row ∷ rows) stand may = (one row stand.0 may.0, each rows stand.1 may.1)

  -- the readings that a call gives, with their marks
  pub all_shown : {E : Type 0} (from to : ℕ) (table : Readings) (rows : List ReadingRow) (made : Result (Vec ShownReading Global) E) → as_rows rows ≡ readings_between known.number from to table
      → All (StandsBetween first last) rows → IfOk made (λ shown. shown.items ≡ map (marked_by shows) rows)
      → IfOk made (λ shown. map as_shown shown.items ≡ with_marks voids (readings_between known.number from to table))
  all_shown from to table rows (Ok shown) are_rows stand is =
      ap (map as_shown) is
      ∙ values rows (own_rows known.number from to table rows are_rows) (recursion_from_All (StandsBetween first last) rows stand)
      ∙ ap (with_marks voids) are_rows
  all_shown from to table rows (Err e) are_rows stand is = tt

  -- each may be one of the point
  pub all_marked : {E : Type 0} (rows : List ReadingRow) (made : Result (Vec ShownReading Global) E) → All (StandsBetween first last) rows → All (MayBeOf known.point shows) rows
      → IfOk made (λ shown. shown.items ≡ map (marked_by shows) rows) → IfOk made (λ shown. All (IsShownOf known.point is_voided) shown.items)
  all_marked rows (Ok shown) stand may is =
      let marked = each rows (recursion_from_All (StandsBetween first last) rows stand) (recursion_from_All (MayBeOf known.point shows) rows may) in
      subst (All (IsShownOf known.point is_voided)) (sym is) (All-from_recursion (IsShownOf known.point is_voided) (map (marked_by shows) rows) marked)
  all_marked rows (Err e) stand may is = tt

-- some slots judge them, whatever is voided
judge : (point : Point) (slots : ℕ → Bool) (rows : List ReadingRow) → AllByRecursion (MayBeOf point slots) rows → AllByRecursion (IsShownOf point slots) (map (marked_by slots) rows)
judge point slots [] may = tt
judge point slots (row ∷ rows) may = (record { may_be = may.0; voided = refl }, judge point slots rows may.1)

pub some_judge : {E : Type 0} (point : Point) (slots : ℕ → Bool) (rows : List ReadingRow) (made : Result (Vec ShownReading Global) E) → All (MayBeOf point slots) rows
    → IfOk made (λ shown. shown.items ≡ map (marked_by slots) rows) → IfOk made (λ shown. (some : ℕ → Bool) × All (IsShownOf point some) shown.items)
some_judge point slots rows (Ok shown) may is =
    let judged = judge point slots rows (recursion_from_All (MayBeOf point slots) rows may) in
    (slots, subst (All (IsShownOf point slots)) (sym is) (All-from_recursion (IsShownOf point slots) (map (marked_by slots) rows) judged))
some_judge point slots rows (Err e) may is = tt
