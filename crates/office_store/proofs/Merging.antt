-- Points are told their orders one after another, beside the numbers of those that are swapped.
use Rattle.std.proofs.Common.{◌≡◌, ℕ, ◌+◌, ◌<◌, List, [], ◌∷◌, ◌++◌, map, length, take, get_or, true, Ok, Err, Result, Vec, Global, IfOk, sym, ap, ap₂, ◌∙◌}
use Rattle.std.proofs.lemmas.List.{map-append, take_more}
use Rattle.poll_book.specs.declared.rows.PointRow.{PointRow}
use Rattle.office_store.specs.declared.swaps.Swap.{Swap}
use Rattle.office_store.specs.Swaps.{AreInOrder, Swaps, as_swap, is_swapped, plain, swaps_of}
use Rattle.office_store.proofs.PlainPoints.{plain_twice}
use Rattle.office_store.proofs.Swapping.{one_swap_more, same_points}

module _ (items : List PointRow) (known : PointRow) where
  pub more_points : (points : List PointRow) (i : ℕ) (row : PointRow) → i < length points → row ≡ get_or points i row → plain known ≡ plain row → map plain items ≡ map plain (take i points)
      → map plain (items ++ known ∷ []) ≡ map plain (take (i + 1) points)
  more_points points i row low is same before =
      map-append plain items (known ∷ []) ∙ ap₂ (λ (ps : List PointRow) (p : PointRow). ps ++ p ∷ []) before (same ∙ ap plain is)
      ∙ sym (map-append plain (take i points) (get_or points i row ∷ [])) ∙ ap (map plain) (sym (take_more points i row low))

  pub more_swaps : (swaps : List Swap) (j : ℕ) (d : Swap) → j < length swaps → (get_or swaps j d).point ≡ known.number → is_swapped known ≡ true → swaps_of items ≡ map as_swap (take j swaps)
      → swaps_of (items ++ known ∷ []) ≡ map as_swap (take (j + 1) swaps)
  more_swaps swaps j d low is swapped before =
      one_swap_more items known swapped ∙ ap₂ (λ (es : Swaps) (n : ℕ). es ++ (n, tt) ∷ []) before (sym is)
      ∙ sym (map-append as_swap (take j swaps) (get_or swaps j d ∷ [])) ∙ ap (map as_swap) (sym (take_more swaps j d low))

-- those that were told are the points that are kept
pub merged : {E : Type 0} (r : Result (Vec PointRow Global) E) (kept points : List PointRow) (swaps : List Swap) → AreInOrder kept → points ≡ map plain kept → map as_swap swaps ≡ swaps_of kept
    → IfOk r (λ known. map plain known.items ≡ map plain points) → IfOk r (λ known. swaps_of known.items ≡ map as_swap swaps) → IfOk r (λ known. known.items ≡ kept)
merged (Ok known) kept points swaps sorted plains numbers same told =
    let across = same ∙ ap (map plain) plains ∙ plain_twice kept in
    sym (same_points kept known.items sorted (sym across) (sym (told ∙ numbers)))
merged (Err e) kept points swaps sorted plains numbers same told = tt
