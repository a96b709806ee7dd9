-- Bytes of a string as they are shown.
use Rattle.std.proofs.Common.{◌≡◌, ◌<◌, ◌+◌, ℕ, List, [], ◌∷◌, ◌++◌, length, get_or, map, take, ap, ◌∙◌}
use Rattle.std.proofs.lemmas.List.{take_more, map-append}
use Rattle.sunspec.specs.Text.{printable}

-- one byte more
pub printable_more : (bytes : List ℕ) (i : ℕ) → i < length bytes → map printable (take (i + 1) bytes) ≡ map printable (take i bytes) ++ printable (get_or bytes i 0) ∷ []
printable_more bytes i lt = ap (map printable) (take_more bytes i 0 lt) ∙ map-append printable (take i bytes) (get_or bytes i 0 ∷ [])
