-- Values that differ, seen from the first.
use Rattle.std.proofs.Common.{◌≡◌, List, [], ◌∷◌, Bool, true, false, length, arith, refl}
use Rattle.std.specs.List.{list_any}
use Rattle.point_list.specs.Sites.{all_differ}

pub differ_none : {X : Type 0} (equal : X → X → Bool) (xs : List X) → length xs ≡ 0 → all_differ equal xs ≡ true
unfolding all_differ
differ_none equal [] e = refl
differ_none equal (x ∷ xs) e = absurd (omega arith)

pub differ_found : {X : Type 0} (equal : X → X → Bool) (xs : List X) (first : X) (rest : List X) → xs ≡ first ∷ rest
    → list_any (λ x. equal x first) rest ≡ true → all_differ equal xs ≡ false
unfolding all_differ
differ_found equal xs first rest e h = rw (e, h) refl

pub differ_more : {X : Type 0} (equal : X → X → Bool) (xs : List X) (first : X) (rest : List X) → xs ≡ first ∷ rest
    → list_any (λ x. equal x first) rest ≡ false → all_differ equal xs ≡ all_differ equal rest
unfolding all_differ
differ_more equal xs first rest e h = rw (e, h) refl
