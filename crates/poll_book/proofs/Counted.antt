-- A point of a number where the first points are numbered on from 1.
use Rattle.std.proofs.Common.{◌≡◌, ◌≢◌, ℕ, zero, suc, ◌-◌, ◌<◌, ◌≤◌, cond, List, [], ◌∷◌, length, get_or, Some, ap, ◌∙◌, arith}
use Rattle.std.proofs.lemmas.Bool.{ne_eqb, eq-eqb}
use Rattle.poll_book.specs.declared.rows.PointRow.{PointRow}
use Rattle.poll_book.specs.Orders.{point_at}
use Rattle.poll_book.specs.Marks.{AreCounted}

-- the first point of a number is the one that is found
first_at : (points : List PointRow) (i n : ℕ) (d : PointRow) → i < length points → ((j : ℕ) (e : PointRow) → j < i → (get_or points j e).number ≢ n) → (get_or points i d).number ≡ n
    → point_at points n ≡ Some (get_or points i d)
first_at [] i n d in_range before here = absurd (omega (arith, in_range))
first_at (x ∷ xs) zero n d in_range before here = ap (λ b. cond b (Some x) (point_at xs n)) (eq-eqb x.number n here)
first_at (x ∷ xs) (suc i) n d in_range before here =
    ap (λ b. cond b (Some x) (point_at xs n)) (ne_eqb x.number n (before 0 x (omega arith)))
    ∙ first_at xs i n d (omega (arith, in_range)) (λ j e lt. before (suc j) e (omega (arith, lt))) here

-- the point of a number stands at its place
pub point_here : (points : List PointRow) (count n : ℕ) (d : PointRow) → AreCounted points count → 1 ≤ n → n ≤ count → point_at points n ≡ Some (get_or points (n - 1) d)
point_here points count n d counted low high =
    first_at points (n - 1) n d (omega (arith, counted.in_range, low, high))
    (λ j e lt same. let is = counted.numbered j e (omega (arith, lt, high)) in omega (arith, is, same, lt))
    (let is = counted.numbered (n - 1) d (omega (arith, low, high)) in omega (arith, is, low))
