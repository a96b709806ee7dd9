-- Texts of digits, front by front.
use Rattle.std.proofs.Common.{◌≡◌, ◌<◌, ◌≤◌, ◌+◌, ◌-◌, ◌*◌, ◌∙◌, ℕ, Bool, true, false, cond, Some, None, ◌&&◌, List, length, take, get_or, ltb, leb, refl, sym, arith, inl, inr}
use Rattle.std.specs.Char.{is_ascii_digit, digit_value}
use Rattle.std.specs.List.{list_all}
use Rattle.std.specs.Str.Parse.{digits_value}
use Rattle.std.proofs.lemmas.Bool.{cases_Bool, lt-ltb}
use Rattle.std.proofs.lemmas.Bool.Decides.{nat_tests}
use Rattle.std.proofs.lemmas.Int.Digits.{digits_value_more}
use Rattle.std.proofs.lemmas.List.Folds.{list_all_at, list_all_more}
use Rattle.std.proofs.lemmas.Str.Parse.{digits_value-take-le}
use borrow.Author.Tests.{leb-true}
use Rattle.sunspec.specs.Digits.{number_within}

digit_value_is : (byte : ℕ) → is_ascii_digit byte ≡ true → digit_value byte ≡ byte - 48
digit_value_is byte h = grind (arith, nat_tests)

-- one more digit
pub value_more : (text : List ℕ) (i : ℕ) → i < length text → is_ascii_digit (get_or text i 0) ≡ true
    → digits_value 10 (take (i + 1) text) ≡ 10 * digits_value 10 (take i text) + (get_or text i 0 - 48)
value_more text i lt digit = omega (arith, digits_value_more 10 text i lt, digit_value_is (get_or text i 0) digit)

pub digits_more : (text : List ℕ) (i : ℕ) → i < length text → list_all is_ascii_digit (take i text) ≡ true → is_ascii_digit (get_or text i 0) ≡ true → list_all is_ascii_digit (take (i + 1) text) ≡ true
digits_more text i lt before digit = list_all_more is_ascii_digit text i 0 lt ∙ rw (before, digit) refl

over_limit : (some all : Bool) (n : ℕ) → cond (some && (all && false)) (Some n) None ≡ None
over_limit true true n = refl
over_limit true false n = refl
over_limit false all n = refl

no_digits : (some : Bool) (n : ℕ) → cond (some && false) (Some n) None ≡ None
no_digits true n = refl
no_digits false n = refl

-- a byte that is no digit, or a digit that goes over the limit, ends the reading
pub stops : (text : List ℕ) (i limit : ℕ) → i < length text
    → (is_ascii_digit (get_or text i 0) && leb (10 * digits_value 10 (take i text) + (get_or text i 0 - 48)) limit) ≡ false → number_within limit text ≡ None
stops text i limit lt stop = elim (cases_Bool (is_ascii_digit (get_or text i 0))) [
  | inl digit ↦
      let over : leb (10 * digits_value 10 (take i text) + (get_or text i 0 - 48)) limit ≡ false = sym (rw digit refl) ∙ stop in
      let front = value_more text i lt digit in
      let grows : digits_value 10 (take (i + 1) text) ≤ digits_value 10 text = digits_value-take-le 10 text (i + 1) (omega arith) in
      let past : leb (digits_value 10 text) limit ≡ false = grind (arith, nat_tests) in
      rw past (over_limit (ltb 0 (length text)) (list_all is_ascii_digit text) (digits_value 10 text))
  | inr other ↦
      let not_all : list_all is_ascii_digit text ≡ false = list_all_at is_ascii_digit text i 0 lt other in
      rw not_all (no_digits (ltb 0 (length text)) (digits_value 10 text))
]

-- every digit was read
pub reads : (text : List ℕ) (limit : ℕ) → 0 < length text → list_all is_ascii_digit text ≡ true → digits_value 10 text ≤ limit → number_within limit text ≡ Some (digits_value 10 text)
reads text limit some all fits =
    let first : ltb 0 (length text) ≡ true = lt-ltb _ _ some in
    let last : leb (digits_value 10 text) limit ≡ true = grind (arith, nat_tests) in
    rw (first, all, last) refl

-- what the code finds of one more digit
pub digit_taken : (digit : Bool) (number limit next : ℕ) → Some next ≡ cond (digit && leb number limit) (Some number) None → (digit ≡ true) × (next ≡ number) × (number ≤ limit)
digit_taken true number limit next e = elim (cases_Bool (leb number limit)) [
  | inl within ↦ let same : Some next ≡ Some number = e ∙ rw within refl in (refl, cc, leb-true number limit within)
  | inr over ↦ let never : Some next ≡ None = e ∙ rw over refl in cc
]
digit_taken false number limit next e = cc

pub digit_refused : (digit : Bool) (number limit : ℕ) → None ≡ cond (digit && leb number limit) (Some number) None → (digit && leb number limit) ≡ false
digit_refused true number limit e = elim (cases_Bool (leb number limit)) [
  | inl within ↦ let never : None ≡ Some number = e ∙ rw within refl in cc
  | inr over ↦ over
]
digit_refused false number limit e = refl
