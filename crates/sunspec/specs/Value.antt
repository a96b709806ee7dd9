-- What registers mean (SunSpec Device Information Model, point types).
use Rattle.std.specs.Prelude.{◌≡◌, ◌≤◌, ◌<◌, ℕ, ◌+◌, ◌-◌, ◌*◌, ◌^◌, ℤ, pos, ◌-ℤ◌, List, [], ◌∷◌, All, length, nat_le, nat_lt, ◌==◌, Bool, true, ◌&&◌, Option, Some, None, if◌then◌else◌}
use Rattle.std.specs.List.{before_first}
use Rattle.mb_pdu.specs.Packing.{words_text}
use Rattle.sunspec.specs.PointType.{row, bits_of, is_unimplemented}
use Rattle.sunspec.specs.declared.point_type.PointType.{PointType}
use Rattle.sunspec.specs.declared.point_type.Content.{Content}
use Rattle.sunspec.specs.declared.point_type.Content.TheVariants.{Signed, Unsigned, Address, Bit as Cell, Text}
use Rattle.sunspec.specs.declared.value.Value.{Value}
use Rattle.sunspec.specs.declared.value.Value.TheVariants.{Number, Unimplemented, Text as TextValue}

-- the sum of the registers, each times its power of 65,536, the most significant first
abbrev pub register_sum : List ℕ → ℕ
register_sum [] = 0
register_sum (word ∷ words) = word * 65536 ^ length words + register_sum words

-- less 2 to the power of the bits where the top bit is set
abbrev pub twos_complement : ℕ → ℕ → ℤ
twos_complement bits sum = if nat_lt sum (2 ^ (bits - 1)) then pos sum else pos sum -ℤ pos (2 ^ bits)

-- the number that a sum of registers means
abbrev pub number_meant : Content → ℕ → ℕ → ℤ
number_meant Signed bits sum = twos_complement bits sum
number_meant _ bits sum = pos sum

-- the bytes of the registers, high byte first, before the first zero byte
abbrev pub text_meant : List ℕ → List ℕ
text_meant words = before_first (λ byte. byte == 0) (words_text words)

-- what registers of a content mean, if they mean anything
abbrev pub meant : Content → ℕ → List ℕ → Value
meant Text bits words = TextValue (text_meant words)
meant content bits words = Number (number_meant content bits (register_sum words))

-- what registers of a type mean
abbrev pub value : PointType → List ℕ → Value
value kind words = if is_unimplemented (row kind).unimplemented (register_sum words) then Unimplemented else meant (row kind).content (bits_of kind) words

-- the number that a value is, if it is one
abbrev pub number_in : Value → Option ℤ
number_in (Number n) = Some n
number_in Unimplemented = None
number_in (TextValue text) = None

-- as many registers as the type has; a cell holds 0 or 1
pub record AreRegistersOf (kind : PointType) (words : List ℕ) : Type 0 where
  pub count : length words ≡ (row kind).registers
  pub cell : (row kind).content ≡ Cell → register_sum words ≤ 1

-- a cell's sum is 0 or 1
abbrev pub is_sum_of : Content → ℕ → Bool
is_sum_of Cell sum = nat_le sum 1
is_sum_of Signed sum = true
is_sum_of Unsigned sum = true
is_sum_of Address sum = true
is_sum_of Text sum = true

-- the same, judged
abbrev pub are_registers : PointType → List ℕ → Bool
are_registers kind words = length words == (row kind).registers && is_sum_of (row kind).content (register_sum words)

-- registers have 16 bits
abbrev pub AreWords : List ℕ → Type 0
AreWords words = All (λ word. word < 65536) words
