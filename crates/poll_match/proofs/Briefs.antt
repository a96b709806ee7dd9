-- What the test of an echo says of its bytes.
use Rattle.std.proofs.Common.{◌≡◌, ℕ, ◌&&◌, List, [], ◌∷◌, refl, ap}
use Rattle.std.specs.Cmp.Lexicographic.{pointwise}
use Rattle.std.specs.Prelude.{nat_eq}
use Rattle.mb_pdu.specs.Replies.{same_text}

-- bytes are a text where each is its byte
pub same_as : (xs ys : List ℕ) → same_text xs ys ≡ pointwise nat_eq xs ys
same_as [] [] = refl
same_as [] (y ∷ ys) = refl
same_as (x ∷ xs) [] = refl
same_as (x ∷ xs) (y ∷ ys) = ap (λ b. nat_eq x y && b) (same_as xs ys)
