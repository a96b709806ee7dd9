-- Numbers as registers.
use Rattle.std.proofs.Common.{◌≡◌, ◌<◌, ◌≤◌, ◌-◌, ◌*◌, ◌/◌, ◌%◌, ◌^◌, ◌∙◌, ℕ, zero, suc, ℤ, pos, negsuc, List, [], ◌∷◌, get_or, drop, ◌≢◌, Bool, refl, ap, sym, arith, ltb, eqb, true, false, inl, inr, ◌-ℤ◌, to_z, of_z}
use Rattle.std.specs.Prelude.{nat_abs}
use Rattle.std.specs.Int.{w128}
use mir.Val.{SFits}
use lib.Signed.{le_z, lt_z}
use Rattle.std.proofs.Math.Nat.{pow-suc, pow-le-pow_right}
use Rattle.std.proofs.lemmas.Bool.{cases_lt, cases_Bool, lt-ltb}
use Rattle.std.proofs.lemmas.List.Elements.{All-head, All-tail}
use Rattle.std.proofs.lemmas.Bool.Decides.{nat_tests}
use Rattle.std.proofs.lemmas.Int.{ints, to_z-of_z}
use Rattle.sunspec.specs.PointType.{row, bits, bits_of, is_unimplemented}
use Rattle.sunspec.specs.declared.point_type.PointType.{PointType}
use Rattle.sunspec.specs.declared.point_type.Content.{Content}
use Rattle.sunspec.specs.declared.point_type.Content.TheVariants.{Signed, Unsigned, Address, Bit as Cell, Text}
use Rattle.sunspec.specs.declared.value.Value.TheVariants.{Unimplemented, Number, Text as TextValue}
use Rattle.sunspec.proofs.Table.{in_table, some_bits}
use Rattle.sunspec.proofs.Meanings.{value_text, value_number, sum_fits}
use Rattle.sunspec.specs.Value.{AreRegistersOf, AreWords, number_meant, register_sum, text_meant, twos_complement, value}

-- the four words of a number, without those in front that it doesn't need
pub words-sum : (sum count : ℕ) → 0 < count → count ≤ 4 → sum < 2 ^ (16 * count)
    → register_sum (drop (4 - count) (sum / 0x1_0000_0000_0000 ∷ sum / 0x1_0000_0000 % 0x1_0000 ∷ sum / 0x1_0000 % 0x1_0000 ∷ sum % 0x1_0000 ∷ [])) ≡ sum
words-sum sum zero some few fits = absurd (omega arith)
words-sum sum (suc zero) some few fits = omega arith
words-sum sum (suc (suc zero)) some few fits = omega arith
words-sum sum (suc (suc (suc zero))) some few fits = omega arith
words-sum sum (suc (suc (suc (suc zero)))) some few fits = omega arith
words-sum sum (suc (suc (suc (suc (suc count))))) some few fits = absurd (omega arith)

pub some_power : (bits : ℕ) → 1 ≤ 2 ^ bits
some_power bits = pow-le-pow_right (omega arith) {i = 0} {j = bits} (omega arith)

-- the top bit halves the numbers of so many bits
pub halves : (bits : ℕ) → 0 < bits → 2 ^ bits ≡ 2 * 2 ^ (bits - 1)
halves zero some = absurd (omega arith)
halves (suc bits) some =
    let before : suc bits - 1 ≡ bits = omega arith in
    rw before (omega (arith, pow-suc 2 bits))

pub twos_complement-low : (bits sum : ℕ) → sum < 2 ^ (bits - 1) → twos_complement bits sum ≡ pos sum
twos_complement-low bits sum low = let test : ltb sum (2 ^ (bits - 1)) ≡ true = lt-ltb _ _ low in rw test refl

pub twos_complement-high : (bits sum : ℕ) → 2 ^ (bits - 1) ≤ sum → sum < 2 ^ bits → twos_complement bits sum ≡ negsuc (2 ^ bits - 1 - sum)
twos_complement-high bits sum high fits =
    let test : ltb sum (2 ^ (bits - 1)) ≡ false = grind (arith, nat_tests) in
    rw test (omega (arith, ints))

-- a negative number, counted down from -1
pub twos_complement-negative : (bits below : ℕ) → 0 < bits → below < 2 ^ (bits - 1) → (2 ^ bits - 1 - below < 2 ^ bits) × (twos_complement bits (2 ^ bits - 1 - below) ≡ negsuc below)
twos_complement-negative bits below some low =
    let half = halves bits some in
    let again : 2 ^ bits - 1 - (2 ^ bits - 1 - below) ≡ below = omega arith in
    (omega arith, twos_complement-high bits (2 ^ bits - 1 - below) (omega arith) (omega arith) ∙ ap negsuc again)

same_twos : (bits a b : ℕ) → 0 < bits → a < 2 ^ bits → b < 2 ^ bits → twos_complement bits a ≡ twos_complement bits b → a ≡ b
same_twos bits a b some fits-a fits-b e = elim (cases_lt a (2 ^ (bits - 1))) [
  | inl low-a ↦ elim (cases_lt b (2 ^ (bits - 1))) [
    | inl low-b ↦ let same : pos a ≡ pos b = sym (twos_complement-low bits a low-a) ∙ e ∙ twos_complement-low bits b low-b in cc
    | inr high-b ↦ let other : pos a ≡ negsuc (2 ^ bits - 1 - b) = sym (twos_complement-low bits a low-a) ∙ e ∙ twos_complement-high bits b high-b fits-b in cc
  ]
  | inr high-a ↦ elim (cases_lt b (2 ^ (bits - 1))) [
    | inl low-b ↦ let other : negsuc (2 ^ bits - 1 - a) ≡ pos b = sym (twos_complement-high bits a high-a fits-a) ∙ e ∙ twos_complement-low bits b low-b in cc
    | inr high-b ↦
        let same : negsuc (2 ^ bits - 1 - a) ≡ negsuc (2 ^ bits - 1 - b) = sym (twos_complement-high bits a high-a fits-a) ∙ e ∙ twos_complement-high bits b high-b fits-b in
        let places : 2 ^ bits - 1 - a ≡ 2 ^ bits - 1 - b = cc in
        omega arith
  ]
]

same_pos : (a b : ℕ) → pos a ≡ pos b → a ≡ b
same_pos a b e = cc

-- two sums don't mean one number
pub same_meaning : (content : Content) (bits a b : ℕ) → 0 < bits → a < 2 ^ bits → b < 2 ^ bits → number_meant content bits a ≡ number_meant content bits b → a ≡ b
same_meaning Signed bits a b some fits-a fits-b e = same_twos bits a b some fits-a fits-b e
same_meaning Unsigned bits a b some fits-a fits-b e = same_pos a b e
same_meaning Address bits a b some fits-a fits-b e = same_pos a b e
same_meaning Cell bits a b some fits-a fits-b e = same_pos a b e
same_meaning Text bits a b some fits-a fits-b e = same_pos a b e

-- words by places
pub word_fits : (words : List ℕ) → AreWords words → (i : ℕ) → get_or words i 0 < 65536
word_fits [] all i = omega arith
word_fits (word ∷ words) all zero = All-head (λ w. w < 65536) word words all
word_fits (word ∷ words) all (suc i) = word_fits words (All-tail (λ w. w < 65536) word words all) i

is_text : Content → Bool
is_text Text = true
is_text _ = false

is_text-true : (content : Content) → is_text content ≡ true → content ≡ Text
unfolding is_text
is_text-true Text e = refl
is_text-true Signed e = cc
is_text-true Unsigned e = cc
is_text-true Address e = cc
is_text-true Cell e = cc

is_text-false : (content : Content) → is_text content ≡ false → content ≢ Text
unfolding is_text
is_text-false content e text = let yes : is_text content ≡ true = rw text refl in cc

text_no_number : (kind : PointType) (words : List ℕ) (z : ℤ) → (row kind).content ≡ Text → value kind words ≢ Number z
text_no_number kind words z text e = elim (cases_Bool (eqb (register_sum words) 0)) [
  | inl is ↦ let never : Unimplemented ≡ Number z = sym (rw is refl) ∙ sym (value_text kind words text) ∙ e in cc
  | inr isnt ↦ let never : TextValue (text_meant words) ≡ Number z = sym (rw isnt refl) ∙ sym (value_text kind words text) ∙ e in cc
]

-- a type's registers have a number as value exactly where their sum means it and isn't that of a point without a value
pub number_of_value : (kind : PointType) (words : List ℕ) (z : ℤ) → value kind words ≡ Number z
    → ((row kind).content ≢ Text) × (is_unimplemented (row kind).unimplemented (register_sum words) ≡ false) × (number_meant (row kind).content (bits_of kind) (register_sum words) ≡ z)
number_of_value kind words z e = elim (cases_Bool (is_text (row kind).content)) [
  | inl text ↦ absurd (text_no_number kind words z (is_text-true _ text) e)
  | inr other ↦
      let number : (row kind).content ≢ Text = is_text-false _ other in
      let split = sym (value_number kind words number) ∙ e in
      elim (cases_Bool (is_unimplemented (row kind).unimplemented (register_sum words))) [
        | inl is ↦ let never : Unimplemented ≡ Number z = sym (rw is refl) ∙ split in cc
        | inr isnt ↦
            let same : Number (number_meant (row kind).content (bits_of kind) (register_sum words)) ≡ Number z = sym (rw isnt refl) ∙ split in
            (number, isnt, cc)
      ]
]

-- no registers where no sum means the number
pub no_sum : (kind : PointType) (z : ℤ) → ((row kind).content ≢ Text → (sum : ℕ) → sum < 2 ^ bits_of kind → number_meant (row kind).content (bits_of kind) sum ≢ z)
    → (words : List ℕ) → AreWords words → AreRegistersOf kind words → value kind words ≢ Number z
no_sum kind z none words fits are e =
    let parts = number_of_value kind words z e in
    none parts.0 (register_sum words) (sum_fits kind words parts.0 are (word_fits words fits)) parts.2

-- none where the sum that means it is that of a point without a value
pub only_unimplemented : (kind : PointType) (z : ℤ) (sum : ℕ) → sum < 2 ^ bits_of kind → number_meant (row kind).content (bits_of kind) sum ≡ z
    → is_unimplemented (row kind).unimplemented sum ≡ true → (words : List ℕ) → AreWords words → AreRegistersOf kind words → value kind words ≢ Number z
only_unimplemented kind z sum below means test words fits are e =
    let parts = number_of_value kind words z e in
    let here = sum_fits kind words parts.0 are (word_fits words fits) in
    let same : register_sum words ≡ sum = same_meaning (row kind).content (bits_of kind) (register_sum words) sum (some_bits kind parts.0) here below (parts.2 ∙ sym means) in
    let no : is_unimplemented (row kind).unimplemented sum ≡ false = rw (← same) parts.1 in
    cc

pub value_of_sum : (kind : PointType) (words : List ℕ) (z : ℤ) (sum : ℕ) → (row kind).content ≢ Text → register_sum words ≡ sum → is_unimplemented (row kind).unimplemented sum ≡ false
    → number_meant (row kind).content (bits_of kind) sum ≡ z → value kind words ≡ Number z
value_of_sum kind words z sum number is test means = value_number kind words number ∙ rw (is, test, means) refl

-- how far a negative number is below -1, as the code computes it
abbrev pub below_one : ℤ → ℤ
below_one z = to_z w128 (of_z w128 (negsuc 0 -ℤ to_z w128 (of_z w128 z)))

below_one-negsuc : (m : ℕ) → SFits w128 (negsuc m) → below_one (negsuc m) ≡ pos m
below_one-negsuc m fits =
    let small : SFits w128 (pos m) = record { sfits = fits.sfits } in
    let less : negsuc 0 -ℤ negsuc m ≡ pos m = omega (arith, ints) in
    rw (to_z-of_z w128 (negsuc m) fits, less, to_z-of_z w128 (pos m) small) refl

pub below_one_is : (z : ℤ) (limit : ℕ) → SFits w128 z → le_z (pos 0) z ≡ false → limit < 2 ^ 64 → lt_z (to_z w128 limit) (below_one z) ≡ false → (negsuc (nat_abs (below_one z)) ≡ z) × (nat_abs (below_one z) ≤ limit)
below_one_is (pos n) limit fits negative wide most = absurd (grind (arith, ints))
below_one_is (negsuc m) limit fits negative wide most =
    let is = below_one-negsuc m fits in
    let order = rw is at most in
    (rw is refl, rw is (grind (arith, ints)))

bits_in : (content : Content) (registers sum : ℕ) → (content ≢ Text → 0 < registers) → sum < 2 ^ bits content registers → sum < 2 ^ (16 * registers)
bits_in Signed registers sum some below = below
bits_in Unsigned registers sum some below = below
bits_in Address registers sum some below = below
bits_in Cell registers sum some below =
    let one : 0 < registers = some (λ e. cc) in
    let most : 2 ^ 1 ≤ 2 ^ (16 * registers) = pow-le-pow_right (omega arith) {i = 1} {j = 16 * registers} (omega arith) in
    omega arith
bits_in Text registers sum some below =
    let most : 2 ^ 0 ≤ 2 ^ (16 * registers) = pow-le-pow_right (omega arith) {i = 0} {j = 16 * registers} (omega arith) in
    omega arith

-- a number of a type's bits fits its registers
pub bits_in_registers : (kind : PointType) (sum : ℕ) → sum < 2 ^ bits_of kind → sum < 2 ^ (16 * (row kind).registers)
bits_in_registers kind sum below = bits_in (row kind).content (row kind).registers sum (in_table kind).some below
