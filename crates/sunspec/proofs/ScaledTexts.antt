-- The text of a number under a scale.
use Rattle.std.proofs.Common.{◌≡◌, ◌≢◌, ◌<◌, ◌≤◌, ◌+◌, ◌-◌, ◌*◌, ◌/◌, ◌%◌, ◌^◌, ℕ, zero, suc, ℤ, pos, negsuc, List, [], ◌∷◌, ◌++◌, length, get_or, replicate, refl, sym, ap, ◌∙◌, arith, append_assoc, neg_ℤ, ◌*ℤ◌, add-one}
use Rattle.std.specs.Prelude.{unsigned_abs}
use Rattle.std.specs.Char.{digit_value}
use Rattle.std.specs.Int.{w128}
use mir.Val.{SFits}
use Rattle.std.specs.Fmt.{decimal, signed_decimal}
use Rattle.std.specs.Str.Parse.{digits_value, digits_value_after, AllDigits}
use Rattle.std.proofs.lemmas.Fmt.{decimal_is_IsNumeral_wide, decimal_by_steps_wide, decimal_digit, decimal_step_wide, length-decimal-le_wide}
use Rattle.std.proofs.Math.Nat.{mul-le-mul_left, mul_assoc, pow-suc, pow-le-pow_right, mod-lt, div-le_self}
use Rattle.std.proofs.lemmas.Nat.{div-add-mod'}
use Rattle.std.proofs.lemmas.Int.{ints}
use Rattle.std.proofs.lemmas.List.{length-append, append-nil, length-replicate, replicate-append-replicate}
use Rattle.sunspec.specs.Text.{HasPlaces, IsScale, IsScaledText, padded, pointed, scaled, sign_of}

-- the first digit of a number is a zero only where the number is 0
first_digit : (n : ℕ) → n < 10 ^ 64 → (0 < length (decimal n)) × (0 < n → 48 < get_or (decimal n) 0 0)
first_digit n lt = decimal_by_steps_wide (λ m ds. (0 < length ds) × (0 < m → 48 < get_or ds 0 0)) one more n lt
  where
    one : (m : ℕ) → m < 10 → (0 < 1) × (0 < m → 48 < 48 + m)
    one m h = (omega arith, λ some. omega arith)

    more : (m : ℕ) (ds : List ℕ) → 10 ≤ m → (0 < length ds) × (0 < m / 10 → 48 < get_or ds 0 0) → (0 < length (ds ++ ((48 + m % 10) ∷ []))) × (0 < m → 48 < get_or (ds ++ ((48 + m % 10) ∷ [])) 0 0)
    more m [] h p = absurd (omega arith)
    more m (d ∷ ds) h p = (omega arith, λ some. p.1 (omega arith))

no_needless_zero : (n : ℕ) → n < 10 ^ 64 → get_or (decimal n) 0 0 ≡ 48 → length (decimal n) ≡ 1
no_needless_zero zero lt h = ap length (decimal_digit 0 (omega arith))
no_needless_zero (suc n) lt h = absurd (let big = (first_digit (suc n) lt).1 (omega arith) in omega arith)

-- digits that follow others
value_after : (n : ℕ) (ds : List ℕ) → digits_value_after 10 n ds ≡ n * 10 ^ length ds + digits_value 10 ds
value_after n [] = omega arith
value_after n (d ∷ ds) =
    let here = value_after (n * 10 + digit_value d) ds in
    let alone = value_after (0 * 10 + digit_value d) ds in
    let power = pow-suc 10 (length ds) in
    rw power (omega (arith, here, alone))

value_of_joined : (n : ℕ) (xs ys : List ℕ) → digits_value_after 10 n (xs ++ ys) ≡ digits_value_after 10 n xs * 10 ^ length ys + digits_value 10 ys
value_of_joined n [] ys = value_after n ys
value_of_joined n (x ∷ xs) ys = value_of_joined (n * 10 + digit_value x) xs ys

all_joined : (xs ys : List ℕ) → AllDigits 10 xs → AllDigits 10 ys → AllDigits 10 (xs ++ ys)
all_joined [] ys h k = k
all_joined (x ∷ xs) ys h k = (h.0, all_joined xs ys h.1 k)

-- zeros in front change no value
zeros_value : (m : ℕ) (ds : List ℕ) → digits_value 10 (replicate m 48 ++ ds) ≡ digits_value 10 ds
zeros_value zero ds = refl
zeros_value (suc m) ds = zeros_value m ds

zeros_digits : (m : ℕ) (ds : List ℕ) → AllDigits 10 ds → AllDigits 10 (replicate m 48 ++ ds)
zeros_digits zero ds h = h
zeros_digits (suc m) ds h = (omega arith, zeros_digits m ds h)

pub power_positive : (k : ℕ) → 1 ≤ 10 ^ k
power_positive k = pow-le-pow_right (omega arith) {i = 0} {j = k} (omega arith)

power_up : (k : ℕ) → k ≤ 10 → 10 ^ k ≤ 10 ^ 10
power_up k few = pow-le-pow_right (omega arith) {i = k} {j = 10} few

-- the digits after the point fit the places
pub fraction_fits : (n places : ℕ) → 0 < places → places ≤ 10 → n < 10 ^ places → length (decimal n) ≤ places
fraction_fits n places some few lt = length-decimal-le_wide places n some lt (omega (arith, power_up places few))

pub has_places : (z : ℤ) (places : ℕ) → 0 < places → places ≤ 10 → unsigned_abs z < 10 ^ 39 → HasPlaces z places (pointed z places)
has_places z places some few small =
    let n : ℕ = unsigned_abs z in
    let one : ℕ = 10 ^ places in
    let positive : 0 < one = power_positive places in
    let whole : ℕ = n / one in
    let rest : ℕ = n % one in
    let parts : whole * one + rest ≡ n = div-add-mod' n one in
    let below : rest < one = mod-lt n positive in
    let less : whole ≤ n = div-le_self n one in
    let front = decimal_is_IsNumeral_wide whole (omega arith) in
    let back = decimal_is_IsNumeral_wide rest (omega (arith, power_up places few)) in
    let zeros : ℕ = places - length (decimal rest) in
    let fits = fraction_fits rest places some few below in
    let count : length (padded places (decimal rest)) ≡ places = omega (arith, length-append (replicate zeros 48) (decimal rest), length-replicate {A = ℕ} zeros 48) in
    record {
      whole = decimal whole;
      fraction = padded places (decimal rest);
      spelled = append_assoc (sign_of z) (decimal whole) (46 ∷ padded places (decimal rest));
      digits = all_joined (decimal whole) (padded places (decimal rest)) front.0.1 (zeros_digits zeros (decimal rest) back.0.1);
      long = count;
      some = front.0.0;
      no_needless_zero = no_needless_zero whole (omega arith);
      reads = value_of_joined 0 (decimal whole) (padded places (decimal rest)) ∙ rw (count, front.1, zeros_value zeros (decimal rest), back.1) parts;
    }

one_more_zero : (m : ℕ) (ds : List ℕ) → 0 < m → m * 10 < 10 ^ 64 → ds ≡ decimal m → ds ++ 48 ∷ [] ≡ decimal (m * 10)
one_more_zero m ds some wide e =
    let front : (m * 10) / 10 ≡ m = omega arith in
    let last : (m * 10) % 10 ≡ 0 = omega arith in
    let step = decimal_step_wide (m * 10) (omega arith) wide in
    rw (step, front, last, e) refl

-- zeros behind a number
decimal_zeros : (n k : ℕ) → 0 < n → n * 10 ^ k < 10 ^ 64 → decimal n ++ replicate k 48 ≡ decimal (n * 10 ^ k)
decimal_zeros n zero some wide =
    let same : n * 1 ≡ n = omega arith in
    append-nil (decimal n) ∙ ap decimal (sym same)
decimal_zeros n (suc k) some wide =
    let m = n * 10 ^ k in
    let more : n * 10 ^ suc k ≡ m * 10 = ap (λ p. n * p) (pow-suc 10 k) ∙ sym (mul_assoc n (10 ^ k) 10) in
    let positive : 0 < m = omega (arith, more, mul-le-mul_left n (power_positive k)) in
    let rest = decimal_zeros n k some (omega (arith, more)) in
    let nought : replicate {A = ℕ} (suc k) 48 ≡ replicate {A = ℕ} k 48 ++ 48 ∷ [] = sym (replicate-append-replicate k 1 48 ∙ ap (λ (j : ℕ). replicate {A = ℕ} j 48) (add-one k)) in
    ap (λ t. decimal n ++ t) nought ∙ sym (append_assoc (decimal n) (replicate k 48) (48 ∷ []))
    ∙ one_more_zero m (decimal n ++ replicate k 48) positive (omega (arith, more)) rest ∙ ap decimal (sym more)

signed_neg : (m : ℕ) → 0 < m → signed_decimal (neg_ℤ (pos m)) ≡ 45 ∷ decimal m
signed_neg zero h = absurd (omega arith)
signed_neg (suc m) h = refl

wide_product : (n k : ℕ) → n < 10 ^ 39 → k ≤ 10 → n * 10 ^ k < 10 ^ 64
wide_product n k small few = let up = mul-le-mul_left n (power_up k few) in omega (arith, up)

-- zeros behind a number that isn't 0 multiply it
pub text_of_product : (z : ℤ) (k : ℕ) → z ≢ pos 0 → unsigned_abs z < 10 ^ 39 → k ≤ 10 → signed_decimal z ++ replicate k 48 ≡ signed_decimal (z *ℤ pos (10 ^ k))
text_of_product (pos zero) k some small few = absurd (some refl)
text_of_product (pos (suc n)) k some small few = decimal_zeros (suc n) k (omega arith) (wide_product (suc n) k small few)
text_of_product (negsuc n) k some small few =
    let product = suc n * 10 ^ k in
    let zeros = decimal_zeros (suc n) k (omega arith) (wide_product (suc n) k small few) in
    let positive : 0 < product = omega (arith, mul-le-mul_left (suc n) (power_positive k)) in
    ap (λ t. 45 ∷ t) zeros ∙ sym (signed_neg product positive)

pub text_of_nothing : (z : ℤ) (k : ℕ) → z ≡ pos 0 → signed_decimal z ≡ signed_decimal (z *ℤ pos (10 ^ k))
text_of_nothing z k e =
    let none : 0 * 10 ^ k ≡ 0 = omega arith in
    rw (e, none) refl

-- the text that the code writes is the text by its places
pub scaled_places : (z scale : ℤ) → IsScale scale → unsigned_abs z < 10 ^ 39 → IsScaledText z scale (scaled z scale)
scaled_places z (pos k) within small = refl
scaled_places z (negsuc k) within small = has_places z (suc k) (omega arith) (omega (arith, ints, within.least)) small

-- a number of 128 bits, in digits
pub signed_small : (z : ℤ) → SFits w128 z → unsigned_abs z < 10 ^ 39
signed_small (pos n) fits = omega (arith, fits.sfits)
signed_small (negsuc n) fits = omega (arith, fits.sfits)
