-- Totals that are put in where none is, one for each counter that is accepted.
use Rattle.std.proofs.Common.{◌≡◌, inl, inr, ℕ, zero, suc, ◌+◌, ◌<◌, ◌≤◌, Bool, true, false, cond, List, [], ◌∷◌, ◌++◌, map, filter, drop, is_some, None, refl, sym, ap, subst, ◌∙◌, arith}
use Rattle.std.specs.List.{AllByRecursion}
use Rattle.std.specs.FinMap.Entries as rows
use Rattle.std.specs.Ordering.{nat_cmp, eq_by_cmp}
use Rattle.std.specs.Cmp.{nat_cmp_total}
use Rattle.std.proofs.lemmas.Bool.{cases_Bool}
use Rattle.poll_book.specs.declared.rows.PointRow.{PointRow}
use Rattle.poll_book.specs.declared.rows.TotalRow.{TotalRow}
use Rattle.poll_book.specs.Tables.{Sums, sum_at, with_sum, with_sums}
use Rattle.poll_book.specs.Totals.{is_counter, total, totals_of}
use Rattle.poll_book.specs.Changes.{AreNumbered, AreThere, as_sums, counters}
use Rattle.office_store.specs.Writing.{AreFree}
use Rattle.office_store.proofs.Appending.{less, greater}

-- ---- what is put for one point more

abbrev as_total : PointRow → ℕ × ℕ
as_total known = (known.number, total known [])

abbrev which : PointRow → Bool
which known = is_counter known.point.role

-- the totals of one point more, by whether it is a counter
abbrev more_totals : Bool → PointRow → List PointRow → Sums
more_totals b row points = map as_total (cond b (row ∷ filter which points) (filter which points))

pub put_more : (row : PointRow) (points : List PointRow) (table : Sums) → with_sums (totals_of (row ∷ []) []) (with_sums (totals_of points []) table) ≡ with_sums (totals_of (row ∷ points) []) table
put_more row points table = by (which row)
  where
    by : (b : Bool) → with_sums (more_totals b row []) (with_sums (totals_of points []) table) ≡ with_sums (more_totals b row points) table
    by true = refl
    by false = refl

pub free_here : (row : PointRow) (points : List PointRow) (table : Sums) → AreFree table (totals_of (row ∷ points) []) → AreFree (with_sums (totals_of points []) table) (totals_of (row ∷ []) [])
free_here row points table = by (which row)
  where
    by : (b : Bool) → AreFree table (more_totals b row points) → AreFree (with_sums (totals_of points []) table) (more_totals b row [])
    by true free = (free.0, tt)
    by false free = tt

free_rest : (row : PointRow) (points : List PointRow) (table : Sums) → AreFree table (totals_of (row ∷ points) []) → AreFree table (totals_of points [])
free_rest row points table = by (which row)
  where
    by : (b : Bool) → AreFree table (more_totals b row points) → AreFree table (totals_of points [])
    by true free = free.1
    by false free = free

pub free_left : (i : ℕ) (points : List PointRow) (table : Sums) → AreFree table (totals_of points []) → AreFree table (totals_of (drop i points) [])
free_left zero points table free = free
free_left (suc i) [] table free = free
free_left (suc i) (row ∷ points) table free = free_left i points table (free_rest row points table free)

-- a counter alone
pub free_counter : (row : PointRow) (table : Sums) → is_counter row.point.role ≡ true → AreFree table (totals_of (row ∷ []) []) → sum_at table row.number ≡ None
free_counter row table counts free = let it = rw counts at free in it.0

pub put_counter : (row : PointRow) (table : Sums) → is_counter row.point.role ≡ true → with_sum row.number 0 table ≡ with_sums (totals_of (row ∷ []) []) table
put_counter row table counts = rw counts refl

-- ---- the numbers of points that are accepted are free

unfoldable AreAbove : ℕ → Sums → Type 0
AreAbove n es = AllByRecursion (λ e. n < e.0) es

absent_above : (n : ℕ) (es : Sums) → AreAbove n es → sum_at es n ≡ None
unfolding AreAbove
absent_above n [] h = refl
absent_above n (e ∷ es) h = let apart = less n e.0 h.0 in rw apart (absent_above n es h.1)

absent_below : (n : ℕ) (es : Sums) → AllByRecursion (λ m. m < n) (map (λ (e : ℕ × ℕ). e.0) es) → sum_at es n ≡ None
absent_below n [] h = refl
absent_below n (e ∷ es) h = let apart = greater n e.0 h.0 in rw apart (absent_below n es h.1)

absent_both : (n : ℕ) (added table : Sums) → sum_at added n ≡ None → sum_at table n ≡ None → sum_at (with_sums added table) n ≡ None
absent_both n [] table none out = out
absent_both n (e ∷ added) table none out = rows.find-put nat_cmp nat_cmp_total n e.0 e.1 (with_sums added table) ∙ elim (cases_Bool (eq_by_cmp nat_cmp n e.0)) [
  | inl same ↦ absurd (let bad = rw same at none in cc)
  | inr apart ↦ rw apart (absent_both n added table (rw apart at none) out)
]

weaker : (m n : ℕ) (xs : List ℕ) → m ≤ n → AllByRecursion (λ k. k < m) xs → AllByRecursion (λ k. k < n) xs
weaker m n [] low h = tt
weaker m n (x ∷ xs) low h = (omega (arith, low, h.0), weaker m n xs low h.1)

-- points that are numbered on have numbers above those before them
later : (m n : ℕ) (points : List PointRow) → m ≤ n → AreNumbered n points → AreAbove m (totals_of points [])
unfolding AreAbove
later m n [] low h = tt
later m n (row ∷ points) low h = by (which row) (later m (n + 1) points (omega (arith, low)) h.1)
  where
    by : (b : Bool) → AllByRecursion (λ (e : ℕ × ℕ). m < e.0) (totals_of points []) → AllByRecursion (λ (e : ℕ × ℕ). m < e.0) (more_totals b row points)
    by true rest = (omega (arith, low, h.0), rest)
    by false rest = rest

free_from : (n : ℕ) (points : List PointRow) (table : Sums) → AreNumbered n points → AllByRecursion (λ m. m < n + 1) (map (λ (e : ℕ × ℕ). e.0) table) → AreFree table (totals_of points [])
free_from n [] table h low = tt
free_from n (row ∷ points) table h low = by (which row) (free_from (n + 1) points table h.1 (weaker (n + 1) (n + 1 + 1) _ (omega arith) low))
  where
    here : sum_at (with_sums (totals_of points []) table) row.number ≡ None
    here = absent_both row.number (totals_of points []) table
        (absent_above row.number (totals_of points []) (later row.number (n + 1) points (omega (arith, h.0)) h.1))
        (absent_below row.number table (subst (λ k. AllByRecursion (λ m. m < k) (map (λ (e : ℕ × ℕ). e.0) table)) (sym h.0) low))

    by : (b : Bool) → AreFree table (totals_of points []) → AreFree table (more_totals b row points)
    by true rest = (here, rest)
    by false rest = rest

record AreKnown (n m : ℕ) (known points : List PointRow) : Type 0 where
  pub low : n ≤ m
  pub numbers : AllByRecursion (λ k. k < m + 1) (counters known)
  pub rest : AreNumbered m points

known_first : (n : ℕ) (known points : List PointRow) → AreNumbered n (known ++ points) → (m : ℕ) × AreKnown n m known points
known_first n [] points h = (n, record { low = omega arith; numbers = tt; rest = h })
known_first n (row ∷ known) points h =
    let it = known_first (n + 1) known points h.1 in
    (it.0, record { low = omega (arith, it.1.low); numbers = by it.0 it.1.low (which row) it.1.numbers; rest = it.1.rest })
  where
    by : (m : ℕ) → n + 1 ≤ m → (b : Bool) → AllByRecursion (λ k. k < m + 1) (counters known)
        → AllByRecursion (λ k. k < m + 1) (map (λ (p : PointRow). p.number) (cond b (row ∷ filter which known) (filter which known)))
    by m low true all = (omega (arith, low, h.0), all)
    by m low false all = all

-- points that are numbered on from those whose counters have totals
pub all_free : (known points : List PointRow) (table : Sums) → AreNumbered 0 (known ++ points) → map (λ (e : ℕ × ℕ). e.0) table ≡ counters known → AreFree table (totals_of points [])
all_free known points table h same =
    let it = known_first 0 known points h in
    free_from it.0 points table it.1.rest (subst (AllByRecursion (λ k. k < it.0 + 1)) (sym same) it.1.numbers)

-- ---- totals that are written over

-- what is there is there still
still : (n : ℕ) (added table : Sums) → is_some (sum_at table n) ≡ true → is_some (sum_at (with_sums added table) n) ≡ true
still n [] table h = h
still n (e ∷ added) table h = ap is_some (rows.find-put nat_cmp nat_cmp_total n e.0 e.1 (with_sums added table)) ∙ elim (cases_Bool (eq_by_cmp nat_cmp n e.0)) [
  | inl same ↦ rw same refl
  | inr apart ↦ rw apart (still n added table h)
]

pub there_after : (more added table : Sums) → AreThere table added → AreThere (with_sums more table) added
there_after more [] table h = tt
there_after more (e ∷ added) table h = (still e.0 more table h.0, there_after more added table h.1)

pub there_left : (i : ℕ) (added : List TotalRow) (table : Sums) → AreThere table (as_sums added) → AreThere table (as_sums (drop i added))
there_left zero added table h = h
there_left (suc i) [] table h = h
there_left (suc i) (e ∷ added) table h = there_left i added table h.1

pub there_here : (row : TotalRow) (added : List TotalRow) (table : Sums) → AreThere table (as_sums (row ∷ added)) → is_some (sum_at (with_sums (as_sums added) table) row.point) ≡ true
there_here row added table h = still row.point (as_sums added) table h.0
