-- The length of a body is at most its limit.
use Rattle.std.proofs.Common.{◌≡◌, ℕ, ◌≤◌, Bool, true, false, nat_lt, ◌==◌, ◌||◌, codes, find, List, refl, arith, Option, Some, None, if◌then◌else◌}
use Rattle.std.proofs.lemmas.Bool.{ltb-false}
use Rattle.sunspec.specs.Digits.{number_of}
use Rattle.office_http.specs.declared.fields.Length.{Length}
use Rattle.office_http.specs.declared.fields.Length.TheVariants.{Missing, Bad, TooLarge, Of}
use Rattle.office_http.specs.Fields.{FieldText, is_named, length_of, length_in, length_within, named_count}

within_limit : (given : Option ℕ) (n : ℕ) → length_within given ≡ Of n → n ≤ 262144
within_limit None n e = absurd (cc)
within_limit (Some k) n e = by (nat_lt 262144 k) refl e
  where
    by : (b : Bool) → nat_lt 262144 k ≡ b → (if b then TooLarge else Of k) ≡ Of n → n ≤ 262144
    by true is e = absurd (cc)
    by false is e = let same : k ≡ n = cc in let most = ltb-false 262144 k is in omega (arith, same, most)

in_limit : (field : Option FieldText) (n : ℕ) → length_in field ≡ Of n → n ≤ 262144
in_limit None n e = absurd (cc)
in_limit (Some field) n e = within_limit (number_of 10 9999999999 field.1) n e

either : (b : Bool) (x y : Length) (n : ℕ) → (x ≡ Of n → n ≤ 262144) → (y ≡ Of n → n ≤ 262144) → (if b then x else y) ≡ Of n → n ≤ 262144
either true x y n one other e = one e
either false x y n one other e = other e

pub of_limit : (fields : List FieldText) (n : ℕ) → length_of fields ≡ Of n → n ≤ 262144
of_limit fields n e =
    let is_missing = nat_lt 0 (named_count (codes "transfer-encoding") fields) || (named_count (codes "content-length") fields == 0) in
    let is_twice = nat_lt 1 (named_count (codes "content-length") fields) in
    let field = find (is_named (codes "content-length")) fields in
    either is_missing Missing (if is_twice then Bad else length_in field) n (λ m. absurd (cc)) (λ more. either is_twice Bad (length_in field) n (λ b. absurd (cc)) (in_limit field n) more) e
