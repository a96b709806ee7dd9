-- What is shown of a point.
use Rattle.std.proofs.Common.{◌≡◌, ◌-◌, ℕ, ◌+◌, List, [], ◌∷◌, ◌++◌, map, take, Option, None, Some, MatchOption, sym, ap, ◌∙◌}
use Rattle.std.specs.Prelude.{option_map, slice_get}
use Rattle.std.specs.Option.{option_to_list}
use Rattle.poll_book.specs.Showing.{Shown, as_shown}
use Rattle.poll_book.specs.declared.shown.ShownReading.{ShownReading}

-- the last of rows that show one is that one
pub popped : (rows left : List ShownReading) (n m : ℕ) (last : Option ShownReading) (one : Shown) → rows ≡ left ++ option_to_list last → left ≡ take (n - 1) rows
    → MatchOption last ((n ≡ 0) × (m ≡ 0)) (λ _. m + 1 ≡ n) → map as_shown rows ≡ one ∷ [] → option_map as_shown last ≡ Some one
popped rows left n m None one is rest none shown =
    let nothing : left ≡ [] = rest ∙ ap (λ k. take (k - 1) rows) none.0 in
    let empty : map as_shown rows ≡ [] = ap (map as_shown) (is ∙ ap (λ l. l ++ []) nothing) in
    absurd (cc)
popped rows left n m (Some x) one is rest some shown = by left (sym (ap (map as_shown) is) ∙ shown)
  where
    not_empty : (ys : List ShownReading) → map as_shown (ys ++ x ∷ []) ≡ [] → ⊥
    not_empty [] none = absurd (cc)
    not_empty (y ∷ ys) none = absurd (cc)

    by : (front : List ShownReading) → map as_shown (front ++ x ∷ []) ≡ one ∷ [] → Some (as_shown x) ≡ Some one
    by [] all = ap (λ l. slice_get l 0) all
    by (y ∷ ys) all = let none : map as_shown (ys ++ x ∷ []) ≡ [] = cc in absurd (not_empty ys none)
