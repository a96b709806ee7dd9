-- Lists of no element and of one, as a match takes them apart.
use Rattle.std.proofs.Common.{◌≡◌, ◌<◌, ◌≤◌, List, [], ◌∷◌, length, get_or, sym, ap, ◌∙◌, arith}

pub nothing : {X : Type 0} (xs ys : List X) → ys ≡ xs → length ys < 1 → xs ≡ []
nothing xs [] same h = sym same
nothing xs (x ∷ more) same h = absurd (omega arith)

pub only : {X : Type 0} (xs ys : List X) (x : X) → ys ≡ xs → 1 ≤ length ys → length ys < 2 → x ≡ get_or ys 0 x → xs ≡ x ∷ []
only xs [] x same some few is = absurd (omega arith)
only xs (y ∷ []) x same some few is = sym same ∙ ap (λ z. z ∷ []) (sym is)
only xs (y ∷ z ∷ more) x same some few is = absurd (omega arith)
