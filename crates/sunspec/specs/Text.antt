-- The text of a number under a scale, and the text of a value.
use Rattle.std.specs.Prelude.{◌≡◌, ◌<◌, ◌≤ℤ◌, ◌-◌, ◌/◌, ◌%◌, ◌^◌, ◌*ℤ◌, ℕ, suc, ℤ, pos, negsuc, List, [], ◌∷◌, ◌++◌, Option, Some, None, ◌&&◌, ◌==◌, nat_le, if◌then◌else◌, length, get_or, map, replicate, unsigned_abs}
use Rattle.std.specs.Fmt.{decimal, signed_decimal}
use Rattle.std.specs.List.{join_with_byte}
use Rattle.std.specs.Str.Parse.{digits_value, AllDigits}
use Rattle.mb_pdu.specs.Packing.{words_text}
use Rattle.sunspec.specs.PointType.{row}
use Rattle.sunspec.specs.Value.{register_sum, text_meant, value}
use Rattle.sunspec.specs.declared.point_type.PointType.{PointType}
use Rattle.sunspec.specs.declared.point_type.Content.{Content}
use Rattle.sunspec.specs.declared.point_type.Content.TheVariants.{Address}
use Rattle.sunspec.specs.declared.value.Value.{Value}
use Rattle.sunspec.specs.declared.value.Value.TheVariants.{Number, Unimplemented, Text as TextValue}

-- a minus stands exactly before negative numbers
abbrev pub sign_of : ℤ → List ℕ
sign_of (pos n) = []
sign_of (negsuc n) = 45 ∷ []

-- digits with zeros in front, so many in all
abbrev pub padded : ℕ → List ℕ → List ℕ
padded places digits = replicate (places - length digits) 48 ++ digits

-- a number's text with so many places after the point
abbrev pub pointed : ℤ → ℕ → List ℕ
pointed z places = sign_of z ++ decimal (unsigned_abs z / 10 ^ places) ++ 46 ∷ padded places (decimal (unsigned_abs z % 10 ^ places))

-- the text of a number times ten to the power of the scale
abbrev pub scaled : ℤ → ℤ → List ℕ
scaled z (pos zeros) = signed_decimal (z *ℤ pos (10 ^ zeros))
scaled z (negsuc places) = pointed z (suc places)

-- a text with so many digits after its point, which reads as the number with the point taken out
pub record HasPlaces (z : ℤ) (places : ℕ) (text : List ℕ) : Type 0 where
  pub whole : List ℕ
  pub fraction : List ℕ
  pub spelled : text ≡ sign_of z ++ (whole ++ 46 ∷ fraction)
  pub digits : AllDigits 10 (whole ++ fraction)
  pub long : length fraction ≡ places
  pub some : 0 < length whole
  pub no_needless_zero : get_or whole 0 0 ≡ 48 → length whole ≡ 1
  pub reads : digits_value 10 (whole ++ fraction) ≡ unsigned_abs z

-- the text of a number under a scale, by its places
abbrev pub IsScaledText : ℤ → ℤ → List ℕ → Type 0
IsScaledText z (pos zeros) text = text ≡ signed_decimal (z *ℤ pos (10 ^ zeros))
IsScaledText z (negsuc places) text = HasPlaces z (suc places) text

-- a scale is -10 to 10
pub record IsScale (scale : ℤ) : Type 0 where
  pub least : negsuc 9 ≤ℤ scale
  pub greatest : scale ≤ℤ pos 10

-- a byte of a string as it is shown: outside of what can be printed, a question mark
abbrev pub printable : ℕ → ℕ
printable byte = if nat_le 0x20 byte && nat_le byte 0x7E then byte else 63

-- bytes as decimal numbers with points
abbrev pub dotted : List ℕ → List ℕ
dotted bytes = join_with_byte 46 (map decimal bytes)

abbrev pub number_shown : Content → ℤ → ℤ → List ℕ → List ℕ
number_shown Address z scale words = dotted (words_text words)
number_shown _ z scale words = scaled z scale

-- a string's registers as they are shown, nothing where all are zero
abbrev pub string_shown : List ℕ → Option (List ℕ)
string_shown words = if register_sum words == 0 then None else Some (map printable (text_meant words))

-- what is shown of a value, nothing where the point is not implemented
abbrev pub value_shown : Content → ℤ → List ℕ → Value → Option (List ℕ)
value_shown content scale words (Number z) = Some (number_shown content z scale words)
value_shown content scale words (TextValue text) = Some (map printable text)
value_shown content scale words Unimplemented = None

-- what is shown of registers
abbrev pub shown : PointType → ℤ → List ℕ → Option (List ℕ)
shown kind scale words = value_shown (row kind).content scale words (value kind words)
