-- Text written part by part.
use Rattle.std.proofs.Common.{◌≡◌, ℕ, List, ◌++◌, ap, ◌∙◌, append_assoc}

-- one part, and what was written behind it
pub then : (out more all part rest : List ℕ) → more ≡ out ++ part → all ≡ more ++ rest → all ≡ out ++ (part ++ rest)
then out more all part rest first second = second ∙ ap (λ t. t ++ rest) first ∙ append_assoc out part rest
