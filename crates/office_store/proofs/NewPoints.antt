-- Points that are put in one after the other.
use Rattle.std.proofs.Common.{◌≡◌, ℕ, suc, ◌+◌, ◌<◌, List, [], ◌∷◌, ◌++◌, length, take, drop, get_or, sym, ap, subst, ◌∙◌, arith}
use Rattle.std.specs.List.{AllByRecursion}
use Rattle.std.proofs.Math.Seq.{drop-cons}
use Rattle.std.proofs.lemmas.List.{append_assoc, take-append-drop, take_more}
use Rattle.poll_book.specs.declared.rows.PointRow.{PointRow}
use Rattle.poll_book.specs.Changes.{AreNumbered}

-- points before another have lower numbers
below_here : (n : ℕ) (before : List PointRow) (row : PointRow) (rest : List PointRow) → AreNumbered n (before ++ row ∷ rest) → (n < row.number) × AllByRecursion (λ p. p.number < row.number) before
below_here n [] row rest h = (omega (arith, h.0), tt)
below_here n (p ∷ before) row rest h =
    let more = below_here (n + 1) before row rest h.1 in
    (omega (arith, more.0), (omega (arith, h.0, more.0), more.1))

module _ (known points : List PointRow) (i : ℕ) (row : PointRow) (in_range : i < length points) (is : row ≡ get_or points i row) where
  pub all_below : AreNumbered 0 (known ++ points) → AllByRecursion (λ p. p.number < row.number) (known ++ take i points)
  all_below numbered =
      let rest = drop (suc i) points in
      let here : drop i points ≡ row ∷ rest = drop-cons points i row in_range ∙ ap (λ (x : PointRow). x ∷ rest) (sym is) in
      let split : points ≡ take i points ++ row ∷ rest = sym (take-append-drop i points) ∙ ap (λ xs. take i points ++ xs) here in
      let all : known ++ points ≡ (known ++ take i points) ++ row ∷ rest = ap (λ xs. known ++ xs) split ∙ sym (append_assoc known (take i points) (row ∷ rest)) in
      (below_here 0 (known ++ take i points) row rest (subst (AreNumbered 0) all numbered)).1

  pub one_more : (known ++ take i points) ++ row ∷ [] ≡ known ++ take (i + 1) points
  one_more = append_assoc known (take i points) (row ∷ []) ∙ ap (λ xs. known ++ xs) (ap (λ (x : PointRow). take i points ++ x ∷ []) is ∙ sym (take_more points i row in_range))
