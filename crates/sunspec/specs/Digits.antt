-- Numbers as fields of a list and words of a script spell them: digits alone.
use Rattle.std.specs.Prelude.{ℕ, List, [], ◌∷◌, Bool, ◌&&◌, Option, Some, None, if◌then◌else◌, nat_le, nat_lt, length, ℤ, pos, neg_ℤ, option_map, ◌==◌}
use Rattle.std.specs.Char.{is_ascii_digit}
use Rattle.std.specs.List.{list_all}
use Rattle.std.specs.Str.Parse.{digits_value}

-- one or more digits whose value is at most the limit
abbrev pub is_number_within : ℕ → List ℕ → Bool
is_number_within limit text = nat_lt 0 (length text) && (list_all is_ascii_digit text && nat_le (digits_value 10 text) limit)

-- the number that they spell
abbrev pub number_within : ℕ → List ℕ → Option ℕ
number_within limit text = if is_number_within limit text then Some (digits_value 10 text) else None

-- the number that so many digits at most spell
abbrev pub number_of : ℕ → ℕ → List ℕ → Option ℕ
number_of most limit text = if nat_le (length text) most then number_within limit text else None

-- one or two digits, at most ten, with or without a minus before them
abbrev pub scale_of : List ℕ → Option ℤ
scale_of [] = None
scale_of (byte ∷ rest) = if byte == 45 then option_map (λ n. neg_ℤ (pos n)) (number_of 2 10 rest) else option_map pos (number_of 2 10 (byte ∷ rest))

-- the greatest number with sign of 128 bits, and how far the least one is below 0
abbrev pub greatest_signed : ℕ
greatest_signed = 170141183460469231731687303715884105727

abbrev pub least_signed : ℕ
least_signed = 170141183460469231731687303715884105728

-- digits, with or without a minus before them, that spell such a number
abbrev pub signed_of : List ℕ → Option ℤ
signed_of [] = None
signed_of (byte ∷ rest) =
    if byte == 45 then option_map (λ n. neg_ℤ (pos n)) (number_within least_signed rest)
    else option_map pos (number_within greatest_signed (byte ∷ rest))
