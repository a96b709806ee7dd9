-- How large numbers and totals are.
use Rattle.std.proofs.Common.{◌≡◌, ℕ, ◌+◌, ◌*◌, ◌^◌, ◌<◌, ◌≤◌, max, Bool, true, false, cond, eqb, leb, T, List, [], ◌∷◌, length, Option, Some, None, refl, subst, arith}
use Rattle.std.specs.Prelude.{ℤ, All, IfSome, ◌&&◌, pos, negsuc}
use Rattle.std.specs.List.{cons_option, last_or}
use Rattle.std.specs.FinMap.Entries as rows
use Rattle.std.proofs.lemmas.Bool.{eqb-true}
use Rattle.std.proofs.lemmas.Bool.Decides.{nat_tests}
use Rattle.std.proofs.lemmas.Nat.{mul-le}
use Rattle.std.proofs.lemmas.List.Elements.{All-head, All-tail, All-cons, All-nil}
use Rattle.sunspec.specs.WordOrder.{number_read}
use Rattle.point_list.specs.declared.point.Point.{Point}
use Rattle.poll_book.specs.declared.rows.PointRow.{PointRow}
use Rattle.poll_book.specs.declared.rows.Reading.{Reading}
use Rattle.poll_book.specs.Tables.{AreByKey, Key, key_cmp, Readings}
use Rattle.poll_book.specs.Totals.{counted_number, counted_numbers, first_of, is_counter, last_of, number_within, reading_number, total}
use Rattle.poll_book.proofs.Sides.{both_left, both_right, higher_is, is_less}
use Rattle.poll_book.proofs.Steps.{steps_bound}

-- a number that counts is at most the roll
within_bound : (roll : ℕ) (read : Option ℤ) → IfSome (number_within roll read) (λ n. n ≤ roll)
within_bound roll (Some (pos n)) = by (leb n roll) refl
  where
    by : (b : Bool) → leb n roll ≡ b → IfSome (cond b (Some n) None) (λ m. m ≤ roll)
    by true is = grind (arith, nat_tests)
    by false is = tt
within_bound roll (Some (negsuc n)) = tt
within_bound roll None = tt

if_kept : (b : Bool) (o : Option ℕ) (roll : ℕ) → IfSome o (λ n. n ≤ roll) → IfSome (cond b o None) (λ n. n ≤ roll)
if_kept true o roll h = h
if_kept false o roll h = tt

counted_bound : (point : Point) (words : List ℕ) → IfSome (counted_number point words) (λ n. n ≤ point.roll)
counted_bound point words =
    if_kept (is_counter point.role) (number_within point.roll (number_read point.kind point.order words)) point.roll (within_bound point.roll (number_read point.kind point.order words))

pub reading_bound : (point : Point) (reading : Reading) (n : ℕ) → reading_number point reading ≡ Some n → n ≤ point.roll
reading_bound point reading n is =
    subst (λ o. IfSome o (λ m. m ≤ point.roll)) is (if_kept reading.counted (counted_number point reading.words) point.roll (counted_bound point reading.words))

pub numbers_bound : (known : PointRow) (table : Readings) → All (λ n. n ≤ known.point.roll) (counted_numbers known table)
numbers_bound known [] = All-nil (λ n. n ≤ known.point.roll)
numbers_bound known (x ∷ table) =
    by (cond (eqb x.0.0 known.number && x.1.counted) (counted_number known.point x.1.words) None)
    (if_kept (eqb x.0.0 known.number && x.1.counted) (counted_number known.point x.1.words) known.point.roll (counted_bound known.point x.1.words)) (numbers_bound known table)
  where
    by : (o : Option ℕ) → IfSome o (λ n. n ≤ known.point.roll) → All (λ n. n ≤ known.point.roll) (counted_numbers known table)
        → All (λ n. n ≤ known.point.roll) (cons_option o (counted_numbers known table))
    by None h rest = rest
    by (Some n) h rest = All-cons (λ m. m ≤ known.point.roll) n (counted_numbers known table) h rest

-- so are the first and the last of such numbers
pub first_bound : (roll : ℕ) (xs : List ℕ) → All (λ n. n ≤ roll) xs → IfSome (first_of xs) (λ n. n ≤ roll)
first_bound roll [] h = tt
first_bound roll (x ∷ xs) h = All-head (λ n. n ≤ roll) x xs h

last_or_bound : (roll : ℕ) (o : Option ℕ) (xs : List ℕ) → IfSome o (λ n. n ≤ roll) → All (λ n. n ≤ roll) xs → IfSome (last_or o xs) (λ n. n ≤ roll)
last_or_bound roll o [] here h = here
last_or_bound roll o (x ∷ xs) here h = last_or_bound roll (Some x) xs (All-head (λ n. n ≤ roll) x xs h) (All-tail (λ n. n ≤ roll) x xs h)

pub last_bound : (roll : ℕ) (xs : List ℕ) → All (λ n. n ≤ roll) xs → IfSome (last_of xs) (λ n. n ≤ roll)
last_bound roll xs h = last_or_bound roll None xs tt h

-- ---- slots that rise below a bound are no more than the bound

module _ (known : PointRow) (most : ℕ) where
  abbrev IsFrom : ℕ → Key × Reading → Type 0
  IsFrom low row = row.0.0 ≡ known.number → low ≤ row.0.1

  -- the point's rows behind one of its rows have later slots
  later : (slot : ℕ) (es : Readings) → T (rows.below_all key_cmp (known.number, slot) es) → All (IsFrom (slot + 1)) es
  later slot [] h = All-nil (IsFrom (slot + 1))
  later slot (e ∷ es) h =
      All-cons (IsFrom (slot + 1)) e es (λ own. let above : slot < e.0.1 = higher_is known.number slot e.0 (is_less (key_cmp (known.number, slot) e.0) (both_left _ _ h)) own in omega arith) (later slot es (both_right _ _ h))

  few : (low : ℕ) (table : Readings) → AreByKey table → All (λ row. row.0.1 < most) table → All (IsFrom low) table → length (counted_numbers known table) + low ≤ max low most
  few low [] sorted below from = omega arith
  few low (x ∷ table) sorted below from =
      by (eqb x.0.0 known.number) refl (λ slot h. few slot table (both_right _ _ sorted) (All-tail (λ row. row.0.1 < most) x table below) h)
    where
      one_more : (o : Option ℕ) → length (cons_option o (counted_numbers known table)) ≤ length (counted_numbers known table) + 1
      one_more None = omega arith
      one_more (Some n) = omega arith

      by : (own : Bool) → eqb x.0.0 known.number ≡ own → ((slot : ℕ) → All (IsFrom slot) table → length (counted_numbers known table) + slot ≤ max slot most)
          → length (cons_option (cond (own && x.1.counted) (counted_number known.point x.1.words) None) (counted_numbers known table)) + low ≤ max low most
      by false is_own rest = rest low (All-tail (IsFrom low) x table from)
      by true is_own rest =
          let here = eqb-true _ _ is_own in
          let at_least = All-head (IsFrom low) x table from here in
          let under = All-head (λ row. row.0.1 < most) x table below in
          let behind = later x.0.1 table (subst (λ n. T (rows.below_all key_cmp (n, x.0.1) table)) here (both_left _ _ sorted)) in
          let fewer = rest (x.0.1 + 1) behind in
          let more = one_more (cond x.1.counted (counted_number known.point x.1.words) None) in
          omega arith

-- the total of a point is small: the sum of at most as many steps as there are slots
pub total_bound : (known : PointRow) (table : Readings) → AreByKey table → All (λ row. row.0.1 < 2 ^ 32) table → total known table ≤ 2 ^ 32 * known.point.roll
total_bound known table sorted below =
    let slots = few known (2 ^ 32) 0 table sorted below (λ i d lt own. omega arith) in
    let most = steps_bound known.point.roll (counted_numbers known table) in
    let all = mul-le (length (counted_numbers known table)) known.point.roll (2 ^ 32) known.point.roll (omega arith) (omega arith) in
    omega arith
