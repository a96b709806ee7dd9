-- The registers of a number are those whose value it is.
use Rattle.std.proofs.Common.{◌≡◌, ◌≢◌, ◌<◌, ◌≤◌, ◌+◌, ◌-◌, ◌*◌, ◌/◌, ◌%◌, ◌^◌, ◌∙◌, ℕ, zero, suc, ℤ, pos, negsuc, true, false, Option, Some, None, List, [], ◌∷◌, length, ltb, refl, sym, ap, arith, inl, inr}
use Rattle.std.specs.Prelude.{option_map}
use Rattle.std.proofs.Math.Nat.{div-add-mod, div-lt_iff_lt-mul, mod-eq_of_lt, mod-lt, mul-add-div_right, mul-add-mod_self_right, pow-le-pow_right, pow-suc}
use Rattle.std.proofs.lemmas.Nat.{div-mul-add}
use Rattle.std.proofs.lemmas.Bool.{cases_Bool, cases_lt, lt-ltb}
use Rattle.std.proofs.lemmas.List.Elements.{All-cons, All-head, All-nil, All-tail}
use borrow.Author.Tests.{ltb-true}
use Rattle.sunspec.specs.PointType.{row, bits, bits_of, is_unimplemented}
use Rattle.sunspec.specs.Value.{AreRegistersOf, AreWords, number_meant, register_sum, twos_complement, value}
use Rattle.sunspec.specs.declared.point_type.PointType.{PointType}
use Rattle.sunspec.specs.declared.point_type.Content.{Content}
use Rattle.sunspec.specs.declared.point_type.Content.TheVariants.{Signed, Unsigned, Address, Bit as Cell, Text}
use Rattle.sunspec.specs.declared.value.Value.TheVariants.{Number}
use Rattle.sunspec.specs.WordOrder.{arranged}
use Rattle.sunspec.proofs.Arranged.{arranged_registers, arranged_twice, arranged_words}
use Rattle.sunspec.proofs.Table.{some_bits}
use Rattle.sunspec.proofs.Meanings.{sum_fits}
use Rattle.sunspec.proofs.Sums.{power_of_registers, register_sum_below}
use Rattle.sunspec.proofs.Encodings.{bits_in_registers, halves, number_of_value, twos_complement-high, twos_complement-low, twos_complement-negative, value_of_sum, word_fits}
use Rattle.point_list.specs.declared.point.Point.{Point}
use Rattle.office_core.specs.Registers.{registers_for, registers_from, registers_meaning, registers_of, signed_sum, sum_of, unsigned_sum}

some_power : (count : ℕ) → 0 < 65536 ^ count
some_power count = let least : 65536 ^ 0 ≤ 65536 ^ count = pow-le-pow_right (omega arith) {i = 0} {j = count} (omega arith) in omega arith

-- registers don't depend on what is above them
from_below : (count above sum : ℕ) → registers_from count (above * 65536 ^ count + sum) ≡ registers_from count sum
from_below zero above sum = refl
from_below (suc count) above sum =
    let power : above * 65536 ^ suc count + sum ≡ above * 65536 * 65536 ^ count + sum = rw pow-suc (omega arith) in
    let quotient : (above * 65536 * 65536 ^ count + sum) / 65536 ^ count ≡ above * 65536 + sum / 65536 ^ count = mul-add-div_right (some_power count) (above * 65536) sum in
    let word : (above * 65536 + sum / 65536 ^ count) % 65536 ≡ sum / 65536 ^ count % 65536 = mul-add-mod_self_right above 65536 (sum / 65536 ^ count) in
    rw (power, quotient, word, from_below count (above * 65536) sum) refl

-- words are the registers of their sum
from_words : (words : List ℕ) → AreWords words → registers_from (length words) (register_sum words) ≡ words
from_words [] fits = refl
from_words (word ∷ words) fits =
    let front : word < 65536 = All-head (λ w. w < 65536) word words fits in
    let rest = All-tail (λ w. w < 65536) word words fits in
    let below : register_sum words < 65536 ^ length words = register_sum_below words (word_fits words rest) in
    let quotient : (word * 65536 ^ length words + register_sum words) / 65536 ^ length words ≡ word = div-mul-add word (65536 ^ length words) (register_sum words) below in
    let whole : word % 65536 ≡ word = mod-eq_of_lt front in
    rw (quotient, whole, from_below (length words) word (register_sum words), from_words words rest) refl

-- so many registers, of 16 bits each, with the sum
from_count : (count sum : ℕ) → length (registers_from count sum) ≡ count
from_count zero sum = refl
from_count (suc count) sum = omega (arith, from_count count sum)

from_fits : (count sum : ℕ) → AreWords (registers_from count sum)
from_fits zero sum = All-nil (λ w. w < 65536)
from_fits (suc count) sum = All-cons (λ w. w < 65536) _ _ (omega arith) (from_fits count sum)

from_sum : (count sum : ℕ) → sum < 65536 ^ count → register_sum (registers_from count sum) ≡ sum
from_sum zero sum below = omega arith
from_sum (suc count) sum below =
    let power : ℕ = 65536 ^ count in
    let rest : sum % power < power = mod-lt sum (some_power count) in
    let parts : sum / power * power + sum % power ≡ sum = omega (arith, div-add-mod sum power) in
    let front : sum / power < 65536 = (div-lt_iff_lt-mul {k = power} {x = sum} {y = 65536} (some_power count)).1 (omega (arith, pow-suc 65536 count)) in
    let word : sum / power % 65536 ≡ sum / power = mod-eq_of_lt front in
    let lower : registers_from count sum ≡ registers_from count (sum % power) = ap (registers_from count) (sym parts) ∙ from_below count (sum / power) (sum % power) in
    rw (word, from_count count sum) (ap (λ (r : List ℕ). sum / power * power + register_sum r) lower ∙ ap (λ (n : ℕ). sum / power * power + n) (from_sum count (sum % power) rest) ∙ parts)

-- the sum that means what a sum means is that one
sum_signed : (bits sum : ℕ) → 0 < bits → sum < 2 ^ bits → signed_sum bits (twos_complement bits sum) ≡ Some sum
sum_signed bits sum some fits = elim (cases_lt sum (2 ^ (bits - 1))) [
  | inl low ↦
      let test : ltb sum (2 ^ (bits - 1)) ≡ true = lt-ltb _ _ low in
      rw twos_complement-low (rw test refl)
  | inr high ↦
      let half = halves bits some in
      let test : ltb (2 ^ bits - 1 - sum) (2 ^ (bits - 1)) ≡ true = lt-ltb _ _ (omega arith) in
      let back : 2 ^ bits - suc (2 ^ bits - 1 - sum) ≡ sum = omega arith in
      rw twos_complement-high (rw (test, back) refl)
]

sum_unsigned : (bits sum : ℕ) → sum < 2 ^ bits → unsigned_sum bits (pos sum) ≡ Some sum
sum_unsigned bits sum fits = let test : ltb sum (2 ^ bits) ≡ true = lt-ltb _ _ fits in rw test refl

sum_meant : (content : Content) (bits sum : ℕ) → content ≢ Text → 0 < bits → sum < 2 ^ bits → sum_of content bits (number_meant content bits sum) ≡ Some sum
sum_meant Signed bits sum number some fits = sum_signed bits sum some fits
sum_meant Unsigned bits sum number some fits = sum_unsigned bits sum fits
sum_meant Address bits sum number some fits = sum_unsigned bits sum fits
sum_meant Cell bits sum number some fits = sum_unsigned bits sum fits
sum_meant Text bits sum number some fits = absurd (number refl)

-- words of a type whose value is the number are its registers
pub registered : (kind : PointType) (number : ℤ) (words : List ℕ) → AreWords words → AreRegistersOf kind words → value kind words ≡ Number number → registers_of kind number ≡ Some words
registered kind number words fits are is =
    let parts = number_of_value kind words number is in
    let below = sum_fits kind words parts.0 are (word_fits words fits) in
    let sum : sum_of (row kind).content (bits_of kind) number ≡ Some (register_sum words) =
    rw (← parts.2) (sum_meant (row kind).content (bits_of kind) (register_sum words) parts.0 (some_bits kind parts.0) below) in
    rw (sum, parts.1, ← are.count, from_words words fits) refl

-- a sum that means the number
record Means (content : Content) (bits : ℕ) (number : ℤ) (sum : ℕ) : Type 0 where
  has_number : content ≢ Text
  below : sum < 2 ^ bits
  means : number_meant content bits sum ≡ number

unsigned_means : (bits : ℕ) (number : ℤ) (sum : ℕ) → unsigned_sum bits number ≡ Some sum → (sum < 2 ^ bits) × (pos sum ≡ number)
unsigned_means bits (pos n) sum e = elim (cases_Bool (ltb n (2 ^ bits))) [
  | inl low ↦
      let same : Some n ≡ Some sum = sym (rw low refl) ∙ e in
      let it : n ≡ sum = cc in
      (omega (arith, ltb-true n (2 ^ bits) low), ap pos (sym it))
  | inr high ↦ let never : None ≡ Some sum = sym (rw high refl) ∙ e in cc
]
unsigned_means bits (negsuc n) sum e = cc

signed_means : (bits : ℕ) (number : ℤ) (sum : ℕ) → 0 < bits → signed_sum bits number ≡ Some sum → (sum < 2 ^ bits) × (twos_complement bits sum ≡ number)
signed_means bits (pos n) sum some e = elim (cases_Bool (ltb n (2 ^ (bits - 1)))) [
  | inl low ↦
      let same : Some n ≡ Some sum = sym (rw low refl) ∙ e in
      let it : n ≡ sum = cc in
      let fits : n < 2 ^ (bits - 1) = ltb-true n (2 ^ (bits - 1)) low in
      rw (← it) (omega (arith, halves bits some), twos_complement-low bits n fits)
  | inr high ↦ let never : None ≡ Some sum = sym (rw high refl) ∙ e in cc
]
signed_means bits (negsuc n) sum some e = elim (cases_Bool (ltb n (2 ^ (bits - 1)))) [
  | inl low ↦
      let same : Some (2 ^ bits - suc n) ≡ Some sum = sym (rw low refl) ∙ e in
      let it : 2 ^ bits - suc n ≡ sum = cc in
      let down : 2 ^ bits - 1 - n ≡ sum = omega arith in
      rw (← down) (twos_complement-negative bits n some (ltb-true n (2 ^ (bits - 1)) low))
  | inr high ↦ let never : None ≡ Some sum = sym (rw high refl) ∙ e in cc
]

sum_means : (content : Content) (bits : ℕ) (number : ℤ) (sum : ℕ) → (content ≢ Text → 0 < bits) → sum_of content bits number ≡ Some sum → Means content bits number sum
sum_means Signed bits number sum some e = let parts = signed_means bits number sum (some (λ t. cc)) e in record { has_number = λ t. cc; below = parts.0; means = parts.1 }
sum_means Unsigned bits number sum some e = let parts = unsigned_means bits number sum e in record { has_number = λ t. cc; below = parts.0; means = parts.1 }
sum_means Address bits number sum some e = let parts = unsigned_means bits number sum e in record { has_number = λ t. cc; below = parts.0; means = parts.1 }
sum_means Cell bits number sum some e = let parts = unsigned_means bits number sum e in record { has_number = λ t. cc; below = parts.0; means = parts.1 }
sum_means Text bits number sum some e = cc

cell_below : (content : Content) (registers sum : ℕ) → sum < 2 ^ bits content registers → content ≡ Cell → sum ≤ 1
cell_below content registers sum below cell = let one = rw cell at below in omega arith

-- the registers of a sum are words of the type with this value
sum_words : (kind : PointType) (number : ℤ) (sum : ℕ) → Means (row kind).content (bits_of kind) number sum → is_unimplemented (row kind).unimplemented sum ≡ false
    → AreWords (registers_from (row kind).registers sum) × AreRegistersOf kind (registers_from (row kind).registers sum) × (value kind (registers_from (row kind).registers sum) ≡ Number number)
sum_words kind number sum parts test =
    let room : sum < 65536 ^ (row kind).registers = rw power_of_registers (bits_in_registers kind sum parts.below) in
    let same : register_sum (registers_from (row kind).registers sum) ≡ sum = from_sum (row kind).registers sum room in
    let cell : (row kind).content ≡ Cell → register_sum (registers_from (row kind).registers sum) ≤ 1 = λ c. rw same (cell_below (row kind).content (row kind).registers sum parts.below c) in
    (from_fits (row kind).registers sum, record { count = from_count (row kind).registers sum; cell = cell }, value_of_sum kind (registers_from (row kind).registers sum) number sum parts.has_number same test parts.means)

-- a number that no words of a type mean has none
no_meaning : (kind : PointType) (number : ℤ) (sum : Option ℕ) → sum_of (row kind).content (bits_of kind) number ≡ sum
    → ((words : List ℕ) → AreWords words → AreRegistersOf kind words → value kind words ≢ Number number) → registers_meaning kind sum ≡ None
no_meaning kind number None e none = refl
no_meaning kind number (Some sum) e none = elim (cases_Bool (is_unimplemented (row kind).unimplemented sum)) [
  | inl is ↦ rw is refl
  | inr isnt ↦
      let parts = sum_words kind number sum (sum_means (row kind).content (bits_of kind) number sum (some_bits kind) e) isnt in
      absurd (none (registers_from (row kind).registers sum) parts.0 parts.1 parts.2)
]

pub unregistered : (kind : PointType) (number : ℤ) → ((words : List ℕ) → AreWords words → AreRegistersOf kind words → value kind words ≢ Number number) → registers_of kind number ≡ None
unregistered kind number none = no_meaning kind number (sum_of (row kind).content (bits_of kind) number) refl none

-- ---- registers as they are sent

-- registers of a point whose value is the number, as they are sent, are its registers
pub arranged_so : (point : Point) (number : ℤ) (words : List ℕ) → AreWords words → AreRegistersOf point.kind words
    → value point.kind (arranged point.order words) ≡ Number number → registers_for point number ≡ Some words
arranged_so point number words fits are is =
    ap (option_map (arranged point.order))
    (registered point.kind number (arranged point.order words) (arranged_words point.order words fits) (arranged_registers point.kind point.order words are) is)
    ∙ ap Some (arranged_twice point.order words)

-- and where no registers have that value, there are none
pub arranged_none : (point : Point) (number : ℤ)
    → ((words : List ℕ) → AreWords words → AreRegistersOf point.kind words → value point.kind (arranged point.order words) ≢ Number number)
    → registers_for point number ≡ None
arranged_none point number none =
    ap (option_map (arranged point.order))
    (unregistered point.kind number (λ words fits are is.
    none (arranged point.order words) (arranged_words point.order words fits) (arranged_registers point.kind point.order words are)
    (ap (value point.kind) (arranged_twice point.order words) ∙ is)))
