-- The editions of the form of lists, which differ in the headers that a list may have.
use Rattle.std.specs.Prelude.{◌≡◌, ◌⊎◌, [], ◌∷◌, ◌++◌, codes}
use Rattle.point_list.specs.Columns.{Record}

-- the first knows no orders of registers, the second may say one in a last column
pub data Edition : Type 0 where
  First : Edition
  Second : Edition

-- the header without that column, and the one with it
abbrev pub header : Record
header =
    codes "name" ∷ codes "device" ∷ codes "table" ∷ codes "address" ∷ codes "type"
    ∷ codes "length" ∷ codes "scale" ∷ codes "role" ∷ codes "roll" ∷ []

abbrev pub header_with_words : Record
header_with_words = header ++ codes "words" ∷ []

-- a header that an edition knows
abbrev pub IsHeader : Edition → Record → Type 0
IsHeader First first = first ≡ header
IsHeader Second first = (first ≡ header) ⊎ (first ≡ header_with_words)
