-- A number names one point.
use Rattle.std.proofs.Common.{◌≡◌, ◌<◌, ◌≤◌, ◌+◌, ℕ, zero, suc, Bool, true, false, cond, eqb, List, [], ◌∷◌, length, get_or, Some, inl, inr, refl, sym, ap, ◌∙◌, arith}
use Rattle.std.specs.Prelude.{Contains, slice_get}
use Rattle.std.proofs.lemmas.Bool.{eq-eqb, eqb-true}
use Rattle.std.proofs.lemmas.Option.{get_or_from_slice_get, slice_get_within}
use Rattle.poll_book.specs.declared.rows.PointRow.{PointRow}
use Rattle.poll_book.specs.Changes.{AreNumbered}
use Rattle.poll_book.specs.Orders.{point_at}
use Rattle.office_core.proofs.Elements.{among, in_none}

-- the number of the point at a place
number_at : (n : ℕ) (xs : List PointRow) (k : ℕ) (d : PointRow) → AreNumbered n xs → k < length xs → (get_or xs k d).number ≡ n + k + 1
number_at n [] k d numbered lt = absurd (omega arith)
number_at n (x ∷ xs) zero d numbered lt = let e = numbered.0 in omega arith
number_at n (x ∷ xs) (suc k) d numbered lt = let e = number_at (n + 1) xs k d numbered.1 (omega arith) in omega arith

-- what stands in a list doesn't depend on what stands for its end
any_default : (xs : List PointRow) (k : ℕ) (a b : PointRow) → k < length xs → get_or xs k a ≡ get_or xs k b
any_default [] k a b lt = absurd (omega arith)
any_default (x ∷ xs) zero a b lt = refl
any_default (x ∷ xs) (suc k) a b lt = any_default xs k a b (omega arith)

-- a number names one point
pub one_point : (n : ℕ) (xs : List PointRow) (a b : PointRow) → AreNumbered n xs → Contains xs a → Contains xs b → a.number ≡ b.number → a ≡ b
one_point n xs a b numbered there other same =
    let i : ℕ = there.0 in
    let j : ℕ = other.0 in
    let p = number_at n xs i a numbered there.1 in
    let q = number_at n xs j b numbered other.1 in
    let x = ap (λ (r : PointRow). r.number) there.2 in
    let y = ap (λ (r : PointRow). r.number) other.2 in
    let e : i ≡ j = omega arith in
    sym there.2 ∙ any_default xs i a b there.1 ∙ ap (λ k. get_or xs k b) e ∙ other.2

-- the number of a point that is there
pub number_in : (n : ℕ) (xs : List PointRow) (a : PointRow) → AreNumbered n xs → Contains xs a → (n < a.number) × (a.number ≤ n + length xs)
number_in n xs a numbered there =
    let e = number_at n xs there.0 a numbered there.1 in
    let is = ap (λ (r : PointRow). r.number) there.2 in
    let lt = there.1 in (omega arith, omega arith)

-- the number of the point at a place
pub number_there : (n : ℕ) (xs : List PointRow) (place : ℕ) (a : PointRow) → AreNumbered n xs → slice_get xs place ≡ Some a → a.number ≡ n + place + 1
number_there n xs place a numbered is =
    ap (λ (r : PointRow). r.number) (sym (get_or_from_slice_get xs place a a is)) ∙ number_at n xs place a numbered (slice_get_within xs place a is)

-- the point that has a number is the first of it
pub first_of_number : (n : ℕ) (xs : List PointRow) (a : PointRow) → AreNumbered n xs → Contains xs a → point_at xs a.number ≡ Some a
first_of_number n [] a numbered there = absurd (in_none a there)
first_of_number n (x ∷ xs) a numbered there =
    elim (among x xs a there) [
      | inl same ↦ by_same (eqb x.number a.number) (eq-eqb x.number a.number (ap (λ (r : PointRow). r.number) same)) same
      | inr later ↦ by_other (eqb x.number a.number) refl later (first_of_number (n + 1) xs a numbered.1 later)
    ]
  where
    by_same : (b : Bool) → b ≡ true → x ≡ a → cond b (Some x) (point_at xs a.number) ≡ Some a
    by_same true e same = ap Some same
    by_same false e same = absurd (cc)

    by_other : (b : Bool) → eqb x.number a.number ≡ b → Contains xs a → point_at xs a.number ≡ Some a → cond b (Some x) (point_at xs a.number) ≡ Some a
    by_other true e later rest =
        let same = eqb-true x.number a.number e in
        let above = (number_in (n + 1) xs a numbered.1 later).0 in
        let first = numbered.0 in
        absurd (omega (arith, same, above, first))
    by_other false e later rest = rest
