-- Registers as one number.
use Rattle.std.proofs.Common.{◌≡◌, ◌<◌, ◌≤◌, ◌+◌, ◌*◌, ◌^◌, ℕ, zero, suc, false, eqb, List, [], ◌∷◌, ◌++◌, length, take, get_or, refl, sym, ap, ◌∙◌, arith, inl, inr}
use Rattle.std.proofs.Math.Nat.{mul-le-mul, mul-le-mul_right, mul_assoc, pow-suc, pow-le-pow_right}
use Rattle.std.proofs.lemmas.Nat.{pow-add}
use Rattle.std.proofs.lemmas.List.{length_push, take_more, length-take, length-take-le, get_or-take, get_or_past}
use Rattle.std.proofs.lemmas.Bool.{cases_lt}
use Rattle.std.proofs.lemmas.Bool.Decides.{nat_tests}
use Rattle.std.specs.List.{list_all}
use Rattle.sunspec.specs.Value.{register_sum}

-- one more register
pub register_sum_push : (words : List ℕ) (word : ℕ) → register_sum (words ++ word ∷ []) ≡ 65536 * register_sum words + word
register_sum_push [] word = omega arith
register_sum_push (first ∷ words) word =
    let count : length (words ++ word ∷ []) ≡ suc (length words) = omega (arith, length_push words word) in
    let power : 65536 ^ length (words ++ word ∷ []) ≡ 65536 ^ length words * 65536 = ap (λ (n : ℕ). 65536 ^ n) count ∙ pow-suc 65536 (length words) in
    let rest = register_sum_push words word in
    let product : first * (65536 ^ length words * 65536) ≡ first * 65536 ^ length words * 65536 = sym (mul_assoc first (65536 ^ length words) 65536) in
    rw (power, product) (omega (arith, rest))

-- so many registers are below this power
pub register_sum_below : (words : List ℕ) → ((i : ℕ) → get_or words i 0 < 65536) → register_sum words < 65536 ^ length words
register_sum_below [] fits = omega arith
register_sum_below (first ∷ words) fits =
    let rest = register_sum_below words (λ i. fits (suc i)) in
    let top : suc first ≤ 65536 = omega (arith, fits 0) in
    let most : suc first * 65536 ^ length words ≤ 65536 * 65536 ^ length words = mul-le-mul_right (65536 ^ length words) top in
    omega (arith, pow-suc 65536 (length words), rest, most)

get_or_take_below : (words : List ℕ) (i k : ℕ) → ((j : ℕ) → get_or words j 0 < 65536) → get_or (take i words) k 0 < 65536
get_or_take_below words i k fits = elim (cases_lt k i) [
  | inl lt ↦ rw (get_or-take i words k 0 lt) (fits k)
  | inr past ↦ rw (get_or_past (take i words) k 0 (omega (arith, length-take i words))) (omega arith)
]

-- a loop's step, while four registers at most are read
pub register_sum_more : (words : List ℕ) (i : ℕ) → ((k : ℕ) → get_or words k 0 < 65536) → length words ≤ 4 → i < length words
    → (register_sum (take (i + 1) words) ≡ 65536 * register_sum (take i words) + get_or words i 0) × (register_sum (take (i + 1) words) < 2 ^ 64)
register_sum_more words i fits few lt =
    let front : List ℕ = take (i + 1) words in
    let each : (k : ℕ) → get_or front k 0 < 65536 = λ k. get_or_take_below words (i + 1) k fits in
    let below : register_sum front < 65536 ^ length front = register_sum_below front each in
    let most : 65536 ^ length front ≤ 65536 ^ 4 = pow-le-pow_right (omega arith) {i = length front} {j = 4} (omega (arith, length-take-le (i + 1) words (omega arith))) in
    (ap register_sum (take_more words i 0 lt) ∙ register_sum_push (take i words) (get_or words i 0), omega arith)

-- registers are all zero where their sum is
pub are_zero-sum : (words : List ℕ) → list_all (λ word. eqb word 0) words ≡ eqb (register_sum words) 0
are_zero-sum [] = refl
are_zero-sum (word ∷ words) =
    let rest = are_zero-sum words in
    let power : 1 ≤ 65536 ^ length words = pow-le-pow_right (omega arith) {i = 0} {j = length words} (omega arith) in
    elim (cases_lt 0 word) [
      | inl some ↦
          let product : 1 * 1 ≤ word * 65536 ^ length words = mul-le-mul some power in
          let left : eqb word 0 ≡ false = grind (arith, nat_tests) in
          let right : eqb (word * 65536 ^ length words + register_sum words) 0 ≡ false = grind (arith, nat_tests) in
          rw (left, right) refl
      | inr none ↦ let none_here : word ≡ 0 = omega arith in let same : word * 65536 ^ length words + register_sum words ≡ register_sum words = rw none_here (omega arith) in rw (same, none_here) rest
    ]

-- registers have 16 bits each
pub power_of_registers : (count : ℕ) → 65536 ^ count ≡ 2 ^ (16 * count)
power_of_registers zero = refl
power_of_registers (suc count) =
    let bits : 16 * suc count ≡ 16 * count + 16 = omega arith in
    pow-suc 65536 count ∙ ap (λ (n : ℕ). n * 65536) (power_of_registers count) ∙ sym (rw bits (pow-add 2 (16 * count) 16))
