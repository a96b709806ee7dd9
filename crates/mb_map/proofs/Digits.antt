-- Texts of digits, front by front.
use Rattle.std.proofs.Common.{◌≡◌, ◌≢◌, ◌≤◌, ◌<◌, ◌+◌, ◌-◌, ◌*◌, ◌^◌, ℕ, zero, suc, true, Result, Ok, Err, List, [], ◌∷◌, length, take, get_or, arith}
use Rattle.std.proofs.lemmas.Bool.{and_parts}
use Rattle.std.proofs.lemmas.Bool.Decides.{nat_tests}
use Rattle.std.proofs.lemmas.Int.Digits.{digits_value_more}
use Rattle.std.proofs.lemmas.Str.Parse.{digits_value-take-le, digits_value_short, numerals_by_value, tells_digits}
use Rattle.std.specs.Char.{is_ascii_digit, digit_value}
use Rattle.std.specs.List.{list_all}
use Rattle.std.specs.Option.{IfSome}
use Rattle.std.specs.Result.{OkIff, result_ok}
use Rattle.std.specs.Str.Parse.{digits_value, AllDigits}

value_below : (c : ℕ) → is_ascii_digit c ≡ true → (digit_value c ≡ c - 48) × (digit_value c < 10) × (48 ≤ c) × (c ≤ 57)
value_below c h = grind (arith, nat_tests)

digits_are : (text : List ℕ) → list_all is_ascii_digit text ≡ true → AllDigits 10 text
digits_are [] h = tt
digits_are (c ∷ cs) h =
    let (here, more) = and_parts (is_ascii_digit c) (list_all is_ascii_digit cs) h in
    ((value_below c here).1, digits_are cs more)

digit_in : (text : List ℕ) (i : ℕ) → list_all is_ascii_digit text ≡ true → i < length text → is_ascii_digit (get_or text i 0) ≡ true
digit_in [] i h lt = absurd (omega arith)
digit_in (c ∷ cs) zero h lt = (and_parts (is_ascii_digit c) (list_all is_ascii_digit cs) h).0
digit_in (c ∷ cs) (suc i) h lt = digit_in cs i (and_parts (is_ascii_digit c) (list_all is_ascii_digit cs) h).1 (omega arith)

-- one more digit, of three at most
pub value_more : (text : List ℕ) (i : ℕ) → list_all is_ascii_digit text ≡ true → length text ≤ 3 → i < length text
    → (digits_value 10 (take (i + 1) text) ≡ 10 * digits_value 10 (take i text) + (get_or text i 0 - 48)) × (digits_value 10 (take (i + 1) text) < 1000)
value_more text i h short lt =
    let step = digits_value_more 10 text i lt in
    let is_value = value_below (get_or text i 0) (digit_in text i h lt) in
    let below = digits_value-take-le 10 text (i + 1) (omega arith) in
    let fits : digits_value 10 text < 10 ^ 3 = digits_value_short (numerals_by_value (AllDigits 10) tells_digits) text 3 (digits_are text h) short in
    (omega (arith, step, is_value.0), omega (arith, below, fits))

-- a number whose first digit isn't 0 isn't 0
pub value_some : (text : List ℕ) → list_all is_ascii_digit text ≡ true → 0 < length text → get_or text 0 0 ≢ 48 → 0 < digits_value 10 text
value_some text h some first =
    let step = digits_value_more 10 text 0 some in
    let is_value = value_below (get_or text 0 0) (digit_in text 0 h some) in
    let below = digits_value-take-le 10 text 1 (omega arith) in
    let not_zero : 48 < get_or text 0 0 = grind (arith, nat_tests, first) in
    omega (arith, step, is_value.0, below)

-- a number over 0 that fits is over 0 where it was put
pub above_zero : {E : Type 0} (r : Result ℕ E) (P : Type 0) (n : ℕ) → OkIff r P n → 0 < n → IfSome (result_ok r) (λ m. 0 < m)
above_zero (Ok m) P n (fits, is) above = omega arith
above_zero (Err e) P n h above = tt
