-- What registers mean, by what the table says of their type.
use Rattle.std.proofs.Common.{◌≡◌, ◌≢◌, ◌<◌, ◌≤◌, ◌*◌, ◌^◌, ◌==◌, ℕ, List, length, get_or, refl, arith, if◌then◌else◌}
use Rattle.sunspec.specs.PointType.{row, bits, bits_of, is_unimplemented}
use Rattle.sunspec.specs.Value.{AreRegistersOf, meant, number_meant, register_sum, text_meant, value}
use Rattle.sunspec.specs.declared.point_type.PointType.{PointType}
use Rattle.sunspec.specs.declared.point_type.Content.{Content}
use Rattle.sunspec.specs.declared.point_type.Content.TheVariants.{Signed, Unsigned, Address, Bit as Cell, Text}
use Rattle.sunspec.specs.declared.value.Value.TheVariants.{Unimplemented, Number, Text as TextValue}
use Rattle.sunspec.proofs.Table.{in_table}
use Rattle.sunspec.proofs.Sums.{register_sum_below, power_of_registers}

-- a string's registers
pub value_text : (kind : PointType) (words : List ℕ) → (row kind).content ≡ Text → value kind words ≡ (if register_sum words == 0 then Unimplemented else TextValue (text_meant words))
value_text kind words text = rw ((in_table kind).zero text, text) refl

sum_below : (registers : ℕ) (words : List ℕ) → length words ≡ registers → ((i : ℕ) → get_or words i 0 < 65536) → register_sum words < 2 ^ (16 * registers)
sum_below registers words count fits =
    let below : register_sum words < 65536 ^ length words = register_sum_below words fits in
    let power : 65536 ^ length words ≡ 2 ^ (16 * registers) = rw count (power_of_registers registers) in
    rw (← power) below

-- the sum of a number's registers has its bits
fits_bits : (content : Content) (registers : ℕ) (words : List ℕ) → content ≢ Text → length words ≡ registers → (content ≡ Cell → register_sum words ≤ 1) → ((i : ℕ) → get_or words i 0 < 65536)
    → register_sum words < 2 ^ bits content registers
fits_bits Signed registers words number count cell fits = sum_below registers words count fits
fits_bits Unsigned registers words number count cell fits = sum_below registers words count fits
fits_bits Address registers words number count cell fits = sum_below registers words count fits
fits_bits Cell registers words number count cell fits = omega (arith, cell refl)
fits_bits Text registers words number count cell fits = absurd (number refl)

pub sum_fits : (kind : PointType) (words : List ℕ) → (row kind).content ≢ Text → AreRegistersOf kind words → ((i : ℕ) → get_or words i 0 < 65536) → register_sum words < 2 ^ bits_of kind
sum_fits kind words number are fits = fits_bits (row kind).content (row kind).registers words number are.count are.cell fits

-- a number's registers that mean something
pub meant_number : (content : Content) (bits : ℕ) (words : List ℕ) → content ≢ Text → meant content bits words ≡ Number (number_meant content bits (register_sum words))
meant_number Signed bits words number = refl
meant_number Unsigned bits words number = refl
meant_number Address bits words number = refl
meant_number Cell bits words number = refl
meant_number Text bits words number = absurd (number refl)

pub value_number : (kind : PointType) (words : List ℕ) → (row kind).content ≢ Text
    → value kind words ≡ (if is_unimplemented (row kind).unimplemented (register_sum words) then Unimplemented else Number (number_meant (row kind).content (bits_of kind) (register_sum words)))
value_number kind words number = rw (meant_number (row kind).content (bits_of kind) words number) refl
