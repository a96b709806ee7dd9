-- Numbers with a minus before them.
use Rattle.std.proofs.Common.{◌≡◌, ◌≤◌, ℕ, zero, suc, Bool, true, false, cond, List, [], ◌∷◌, length, refl, arith, Option, Some, None}
use Rattle.std.specs.Prelude.{ℤ, pos, neg_ℤ, option_map, ◌==◌, ◌&&◌, nat_le, nat_lt}
use Rattle.std.specs.Char.{is_ascii_digit}
use Rattle.std.specs.List.{list_all}
use Rattle.std.specs.Str.Parse.{digits_value}
use Rattle.std.proofs.lemmas.Bool.{and_parts}
use Rattle.std.proofs.lemmas.Bool.Decides.{nat_tests}
use Rattle.std.proofs.Common.{subst}
use Rattle.sunspec.specs.Digits.{greatest_signed, is_number_within, least_signed, number_within}
use Rattle.office_core.specs.Legal.{IsNumber}
use Rattle.office_script.specs.Words.{value_of}

pub same : {A : Type 0} (x y : A) → Some x ≡ Some y → y ≡ x
same x y e = cc

-- a number that digits spell is at most the limit
pub within_limit : (limit n : ℕ) (word : List ℕ) → Some n ≡ number_within limit word → n ≤ limit
within_limit limit n word is = by (is_number_within limit word) refl is
  where
    by : (b : Bool) → is_number_within limit word ≡ b → Some n ≡ cond b (Some (digits_value 10 word)) None → n ≤ limit
    by false h e = absurd (cc)
    by true h e =
        let parts = and_parts (list_all is_ascii_digit word) (nat_le (digits_value 10 word) limit) (and_parts (nat_lt 0 (length word)) (list_all is_ascii_digit word && nat_le (digits_value 10 word) limit) h).1 in
        let value = same n (digits_value 10 word) e in
        let small : digits_value 10 word ≤ limit = grind (arith, nat_tests, parts) in
        omega (arith, value, small)

negative_number : (n : ℕ) → n ≤ least_signed → IsNumber (neg_ℤ (pos n))
negative_number zero h = omega arith
negative_number (suc n) h = omega (arith, h)

-- a value that a word spells has 128 bits with sign
pub value_number : (word : List ℕ) (z : ℤ) → Some z ≡ value_of word → IsNumber z
value_number [] z e = absurd (cc)
value_number (byte ∷ rest) z e = by (byte == 45) e
  where
    below : (o : Option ℕ) → ((n : ℕ) → Some n ≡ o → n ≤ least_signed) → Some z ≡ option_map (λ n. neg_ℤ (pos n)) o → IsNumber z
    below None h e = absurd (cc)
    below (Some n) h e = subst IsNumber (same z (neg_ℤ (pos n)) e) (negative_number n (h n refl))

    above : (o : Option ℕ) → ((n : ℕ) → Some n ≡ o → n ≤ greatest_signed) → Some z ≡ option_map pos o → IsNumber z
    above None h e = absurd (cc)
    above (Some n) h e = subst IsNumber (same z (pos n) e) (h n refl)

    by : (b : Bool) → Some z ≡ cond b (option_map (λ n. neg_ℤ (pos n)) (number_within least_signed rest)) (option_map pos (number_within greatest_signed (byte ∷ rest))) → IsNumber z
    by true e = below (number_within least_signed rest) (λ n h. within_limit least_signed n rest h) e
    by false e = above (number_within greatest_signed (byte ∷ rest)) (λ n h. within_limit greatest_signed n (byte ∷ rest) h) e
