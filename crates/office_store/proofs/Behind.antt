-- What is known of a table from where its rows end.
use Rattle.std.proofs.Common.{◌≡◌, ◌<◌, ◌≤◌, ◌+◌, ◌++◌, get_or, length, take, ℕ, Bool, true, false, cond, ◌==◌, nat_lt, List, [], ◌∷◌, Option, None, Some, IfSome, refl, sym, ap, subst, ◌∙◌, arith}
use Rattle.std.specs.Prelude.{is_some}
use Rattle.std.specs.List.{AllByRecursion, filter}
use Rattle.std.specs.declared.cmp.Ordering.{Ordering}
use Rattle.std.specs.declared.cmp.Ordering.TheVariants.{Less, Equal, Greater}
use Rattle.std.specs.Ordering.{eq_by_cmp}
use Rattle.std.specs.FinMap.Entries as rows
use Rattle.std.proofs.lemmas.Bool.Decides.{nat_tests}
use Rattle.std.proofs.lemmas.List.Elements.{All-from_recursion, All-push, All-weaker, recursion_from_All}
use Rattle.std.proofs.lemmas.List.{map-append, take_more}
use Rattle.poll_book.specs.declared.rows.PointRow.{PointRow}
use Rattle.poll_book.specs.declared.rows.Reading.{Reading}
use Rattle.poll_book.specs.declared.rows.ReadingRow.{ReadingRow}
use Rattle.poll_book.specs.Changes.{as_row, as_rows}
use Rattle.poll_book.specs.Tables.{Key, Readings, Voids, is_void, key_cmp, with_rows}
use Rattle.poll_book.specs.Totals.{counted_numbers, first_of, value_after}
use Rattle.office_store.specs.Ends.{AreEnds, IsEndOf, IsWithin, end_at}
use Rattle.office_store.proofs.Slots.{keys_exact}

-- the end that is known of a point is its end
pub known_end : {V : Type 0} (ends : List (Option ℕ)) (table : List (Key × V)) (point end : ℕ) → AreEnds ends table → end_at ends point ≡ Some end → IsEndOf point end table
known_end {V = V} ends table point end are is =
    All-weaker (λ (row : Key × V). IsWithin ends row.0) (λ (row : Key × V). row.0.0 ≡ point → row.0.1 < end)
    (λ row within own. subst (λ o. IfSome o (λ n. row.0.1 < n)) (ap (end_at ends) own ∙ is) within) table are

-- ends that are later, or of which less is known, are those of the table too
pub still : {V : Type 0} (ends more : List (Option ℕ)) → ((key : Key) → IsWithin ends key → IsWithin more key) → (table : List (Key × V)) → AreEnds ends table → AreEnds more table
still {V = V} ends more later table are = All-weaker (λ (row : Key × V). IsWithin ends row.0) (λ (row : Key × V). IsWithin more row.0) (λ row within. later row.0 within) table are

-- no row stands at the end of its point or behind it
pub none_at : {V : Type 0} (point slot end : ℕ) (table : List (Key × V)) → IsEndOf point end table → end ≤ slot → rows.find key_cmp (point, slot) table ≡ None
none_at {V = V} point slot end table are behind = by table (recursion_from_All (λ (row : Key × V). row.0.0 ≡ point → row.0.1 < end) table are)
  where
    apart : (key : Key) → (key.0 ≡ point → key.1 < end) → (o : Ordering) → key_cmp (point, slot) key ≡ o → eq_by_cmp key_cmp (point, slot) key ≡ false
    apart key before Less is = rw is refl
    apart key before Greater is = rw is refl
    apart key before Equal is =
        let same = keys_exact (point, slot) key is in
        let own : key.0 ≡ point = sym (ap (λ (k : Key). k.0) same) in
        let at : slot ≡ key.1 = ap (λ (k : Key). k.1) same in
        let low = before own in
        absurd (omega (arith, low, at, behind))

    by : (rest : List (Key × V)) → AllByRecursion (λ (row : Key × V). row.0.0 ≡ point → row.0.1 < end) rest → rows.find key_cmp (point, slot) rest ≡ None
    by [] all = refl
    by (row ∷ rest) all = rw (apart row.0 all.0 (key_cmp (point, slot) row.0) refl) (by rest all.1)

-- where each voided slot of the point stands before an end, none is at it or behind it
pub free : (point slot end : ℕ) (voids : Voids) → IsEndOf point end voids → end ≤ slot → false ≡ is_void voids (point, slot)
free point slot end voids are behind = sym (ap is_some (none_at point slot end voids are behind))

-- nor does a counted one just before it have one after it
pub none_after : (known : PointRow) (slot end : ℕ) (table : Readings) → IsEndOf known.number end table → end ≤ slot + 1 → value_after known slot table ≡ None
none_after known slot end table are behind = ap first_of (by table (recursion_from_All (λ (row : Key × Reading). row.0.0 ≡ known.number → row.0.1 < end) table are))
  where
    step : (row : Key × Reading) (rest : Readings) → (row.0.0 ≡ known.number → row.0.1 < end) → (later own : Bool) → nat_lt slot row.0.1 ≡ later → (row.0.0 == known.number) ≡ own
        → counted_numbers known rest ≡ [] → counted_numbers known (cond later (row ∷ rest) rest) ≡ []
    step row rest before false own at is none = none
    step row rest before true false at is none = rw is none
    step row rest before true true at is none =
        let same : row.0.0 ≡ known.number = grind (arith, nat_tests) in
        let low = before same in
        let high : slot < row.0.1 = grind (arith, nat_tests) in
        absurd (omega (arith, low, high, behind))

    by : (rest : Readings) → AllByRecursion (λ (row : Key × Reading). row.0.0 ≡ known.number → row.0.1 < end) rest → counted_numbers known (filter (λ row. nat_lt slot row.0.1) rest) ≡ []
    by [] all = refl
    by (row ∷ rest) all = step row (filter (λ row. nat_lt slot row.0.1) rest) all.0 (nat_lt slot row.0.1) (row.0.0 == known.number) refl refl (by rest all.1)

module _ {V : Type 0} (ends : List (Option ℕ)) where
  abbrev Within : Key × V → Type 0
  Within row = IsWithin ends row.0

  -- if rows stand before the ends of their points, they do with one more that does
  with_one : (row : Key × V) (table : List (Key × V)) → Within row → AllByRecursion Within table → AllByRecursion Within (rows.put key_cmp row.0 row.1 table)
  with_one row [] here all = (here, tt)
  with_one row (other ∷ table) here all = by (key_cmp row.0 other.0) (with_one row table here all.1)
    where
      by : (o : Ordering) → AllByRecursion Within (rows.put key_cmp row.0 row.1 table)
          → AllByRecursion Within (rows.by_order o ((row.0, row.1) ∷ other ∷ table) ((other.0, row.1) ∷ table) (other ∷ rows.put key_cmp row.0 row.1 table))
      by Less rest = (here, all)
      by Equal rest = (all.0, all.1)
      by Greater rest = (all.0, rest)

  -- so the ends of a row and of a table are those of the table with the row put in
  pub with_row_more : (row : Key × V) (table : List (Key × V)) → IsWithin ends row.0 → AreEnds ends table → AreEnds ends (rows.put key_cmp row.0 row.1 table)
  with_row_more row table here all = All-from_recursion Within (rows.put key_cmp row.0 row.1 table) (with_one row table here (recursion_from_All Within table all))

module _ (ends : List (Option ℕ)) where
  -- so are those of rows and of a table
  pub with_more : (added table : Readings) → AreEnds ends added → AreEnds ends table → AreEnds ends (with_rows added table)
  with_more added table new = by added (recursion_from_All (Within ends) added new)
    where
      by : (added : Readings) → AllByRecursion (Within ends) added → AreEnds ends table → AreEnds ends (with_rows added table)
      by [] new all = all
      by (row ∷ added) new all = with_row_more ends row (with_rows added table) new.0 (by added new.1 all)

  -- and those of rows and of one more
  pub one_more : (added : List ReadingRow) (i : ℕ) (d : ReadingRow) → i < length added → AreEnds ends (as_rows (take i added)) → IsWithin ends (as_row (get_or added i d)).0 → AreEnds ends (as_rows (take (i + 1) added))
  one_more added i d low all here =
      let row = get_or added i d in
      let is : as_rows (take (i + 1) added) ≡ as_rows (take i added) ++ as_row row ∷ [] = ap as_rows (take_more added i d low) ∙ map-append as_row (take i added) (row ∷ []) in
      subst (AreEnds ends) (sym is) (All-push (Within ends) (as_rows (take i added)) (as_row row) all here)
