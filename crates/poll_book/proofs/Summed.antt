-- Totals that are put one after the other.
use Rattle.std.proofs.Common.{◌≡◌, ℕ, ◌<◌, Bool, true, false, cond, List, [], ◌∷◌, ◌++◌, map, filter, refl, sym, ap, subst, ◌∙◌, arith}
use Rattle.std.specs.Ordering.{nat_cmp}
use Rattle.std.specs.Cmp.{nat_cmp_is}
use Rattle.std.specs.declared.cmp.Ordering.{Ordering}
use Rattle.std.specs.declared.cmp.Ordering.TheVariants.{Less, Equal, Greater}
use Rattle.std.specs.FinMap.Entries as rows
use Rattle.std.proofs.lemmas.Cmp.{ranked}
use Rattle.poll_book.specs.declared.rows.PointRow.{PointRow}
use Rattle.poll_book.specs.Tables.{Sums, with_sum, with_sums}
use Rattle.poll_book.specs.Totals.{is_counter, total, totals_of}

-- the total of one point more that is accepted
pub begun_more : (row : PointRow) (rows : List PointRow) (table : Sums)
    → with_sums (totals_of (row ∷ []) []) (with_sums (totals_of rows []) table) ≡ with_sums (totals_of (row ∷ rows) []) table
begun_more row rows table = by (is_counter row.point.role)
  where
    by : (b : Bool) → with_sums (map (λ (known : PointRow). (known.number, total known [])) (cond b (row ∷ []) [])) (with_sums (totals_of rows []) table)
        ≡ with_sums (map (λ (known : PointRow). (known.number, total known [])) (cond b (row ∷ filter (λ known. is_counter known.point.role) rows) (filter (λ known. is_counter known.point.role) rows))) table
    by true = refl
    by false = refl

-- where a total is put, by how its number stands to that of the first row
placed : (n v : ℕ) (e : ℕ × ℕ) (es : Sums) (o : Ordering) → nat_cmp n e.0 ≡ o → with_sum n v (e ∷ es) ≡ rows.by_order o ((n, v) ∷ e ∷ es) ((e.0, v) ∷ es) (e ∷ with_sum n v es)
placed n v e es o is = ap (λ o. rows.by_order o ((n, v) ∷ e ∷ es) ((e.0, v) ∷ es) (e ∷ with_sum n v es)) is

-- the totals of two numbers, one below the other, may be put in either order
swapped_below : (m n v w : ℕ) (table : Sums) → m < n → with_sum m v (with_sum n w table) ≡ with_sum n w (with_sum m v table)
swapped_below m n v w table lt = go table
  where
    low : nat_cmp m n ≡ Less
    low = sym (nat_cmp_is m n Less lt)

    high : nat_cmp n m ≡ Greater
    high = sym (nat_cmp_is n m Greater lt)

    by : (e : ℕ × ℕ) (es : Sums) (o p : Ordering) → nat_cmp m e.0 ≡ o → nat_cmp n e.0 ≡ p → with_sum m v (with_sum n w es) ≡ with_sum n w (with_sum m v es)
        → with_sum m v (rows.by_order p ((n, w) ∷ e ∷ es) ((e.0, w) ∷ es) (e ∷ with_sum n w es)) ≡ with_sum n w (rows.by_order o ((m, v) ∷ e ∷ es) ((e.0, v) ∷ es) (e ∷ with_sum m v es))
    by e es Less Less a b rest = placed m v (n, w) (e ∷ es) Less low ∙ sym (placed n w (m, v) (e ∷ es) Greater high ∙ ap (λ l. (m, v) ∷ l) (placed n w e es Less b))
    by e es Less Equal a b rest = placed m v (e.0, w) es Less a ∙ sym (placed n w (m, v) (e ∷ es) Greater high ∙ ap (λ l. (m, v) ∷ l) (placed n w e es Equal b))
    by e es Less Greater a b rest = placed m v e (with_sum n w es) Less a ∙ sym (placed n w (m, v) (e ∷ es) Greater high ∙ ap (λ l. (m, v) ∷ l) (placed n w e es Greater b))
    by e es Equal Greater a b rest = placed m v e (with_sum n w es) Equal a ∙ sym (placed n w (e.0, v) es Greater b)
    by e es Greater Greater a b rest = placed m v e (with_sum n w es) Greater a ∙ ap (λ l. e ∷ l) rest ∙ sym (placed n w e (with_sum m v es) Greater b)
    by e es Equal Less a b rest = absurd (let x = ranked m e.0 Equal (sym a) in let y = ranked n e.0 Less (sym b) in omega (arith, x, y, lt))
    by e es Equal Equal a b rest = absurd (let x = ranked m e.0 Equal (sym a) in let y = ranked n e.0 Equal (sym b) in omega (arith, x, y, lt))
    by e es Greater Less a b rest = absurd (let x = ranked m e.0 Greater (sym a) in let y = ranked n e.0 Less (sym b) in omega (arith, x, y, lt))
    by e es Greater Equal a b rest = absurd (let x = ranked m e.0 Greater (sym a) in let y = ranked n e.0 Equal (sym b) in omega (arith, x, y, lt))

    go : (table : Sums) → with_sum m v (with_sum n w table) ≡ with_sum n w (with_sum m v table)
    go [] = placed m v (n, w) [] Less low ∙ sym (placed n w (m, v) [] Greater high)
    go (e ∷ es) = by e es (nat_cmp m e.0) (nat_cmp n e.0) refl refl (go es)

-- and so may two equal totals, whatever their numbers are
swapped : (m n v : ℕ) (table : Sums) → with_sum m v (with_sum n v table) ≡ with_sum n v (with_sum m v table)
swapped m n v table = by (nat_cmp m n) refl
  where
    by : (o : Ordering) → nat_cmp m n ≡ o → with_sum m v (with_sum n v table) ≡ with_sum n v (with_sum m v table)
    by Less is = swapped_below m n v v table (ranked m n Less (sym is))
    by Equal is = subst (λ k. with_sum m v (with_sum k v table) ≡ with_sum k v (with_sum m v table)) (ranked m n Equal (sym is)) refl
    by Greater is = sym (swapped_below n m v v table (ranked m n Greater (sym is)))

-- the total of a point that is accepted, if it is a counter
abbrev begun : PointRow → Bool → Sums
begun row counts = map (λ (known : PointRow). (known.number, total known [])) (cond counts (row ∷ []) [])

-- of two points that are accepted either may be the first, since the total of each is 0
begun_swapped : (a b : PointRow) (table : Sums)
    → with_sums (totals_of (a ∷ []) []) (with_sums (totals_of (b ∷ []) []) table) ≡ with_sums (totals_of (b ∷ []) []) (with_sums (totals_of (a ∷ []) []) table)
begun_swapped a b table = by (is_counter a.point.role) (is_counter b.point.role)
  where
    by : (x y : Bool) → with_sums (begun a x) (with_sums (begun b y) table) ≡ with_sums (begun b y) (with_sums (begun a x) table)
    by true true = swapped a.number b.number 0 table
    by true false = refl
    by false y = refl

-- the total of a point that is accepted behind others
pub begun_last : (row : PointRow) (rows : List PointRow) (table : Sums)
    → with_sums (totals_of (row ∷ []) []) (with_sums (totals_of rows []) table) ≡ with_sums (totals_of (rows ++ row ∷ []) []) table
begun_last row [] table = refl
begun_last row (x ∷ rows) table =
    let one = with_sums (totals_of (row ∷ []) []) in
    let first = with_sums (totals_of (x ∷ []) []) in
    ap one (sym (begun_more x rows table))
    ∙ begun_swapped row x (with_sums (totals_of rows []) table)
    ∙ ap first (begun_last row rows table)
    ∙ begun_more x (rows ++ row ∷ []) table
