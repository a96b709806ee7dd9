-- The spelling of a frame, and what its front shows.
use Rattle.std.proofs.Common.{◌≡◌, ℕ, suc, ◌+◌, ◌-◌, ◌*◌, ◌/◌, ◌%◌, ◌<◌, ◌≤◌, List, [], ◌∷◌, ◌++◌, length, get_or, take, drop, refl, sym, ◌∙◌, arith}
use Rattle.std.proofs.lemmas.Nat.{div-mul-add, mod-mul-add}
use Rattle.std.proofs.Math.Nat.{mod-eq_of_lt}
use Rattle.std.proofs.Common.{None, take_all, length-drop, length-take}
use Rattle.byteorder.specs.Endian.{big_number, big_bytes}
use Rattle.mb_mbap.specs.declared.judging.Step.TheVariants.{Whole}
use Rattle.mb_mbap.specs.Steps.{StepMeans}
use Rattle.mb_mbap.specs.Stream.{wanted, fault_of, header_fault, protocol_of, length_of}

-- the two bytes of a number below 2 ^ 16
pub bytes_of_pair : (a b n : ℕ) → a < 256 → b < 256 → n ≡ a * 256 + b → (n / 256 % 256 ≡ a) × (n % 256 ≡ b)
bytes_of_pair a b n ha hb e =
    let high : n / 256 ≡ a = rw e (div-mul-add a 256 b hb) in
    let low : n % 256 ≡ b = rw e (mod-mul-add a 256 b hb) in
    (rw high (mod-eq_of_lt ha), low)

-- the front of a list of at least n items
pub front-bytes : (a b c d e f g : ℕ) (xs : List ℕ) (l : ℕ) → 2 ≤ l → take (6 + l) (a ∷ b ∷ c ∷ d ∷ e ∷ f ∷ g ∷ xs) ≡ a ∷ b ∷ c ∷ d ∷ e ∷ f ∷ g ∷ take (l - 1) xs
front-bytes a b c d e f g xs l h =
    let split : 6 + l ≡ suc (suc (suc (suc (suc (suc (suc (l - 1))))))) = omega arith in
    rw split refl

abbrev Spells : List ℕ → Type 0
Spells xs =
    (t l : ℕ) (unit : List ℕ) → 2 ≤ l → big_number 2 (drop 2 xs) ≡ 0 → l ≡ big_number 2 (drop 4 xs) → t ≡ big_number 2 xs → ((k : ℕ) → get_or xs k 0 < 256) → unit ≡ take (l - 1) (drop 7 xs)
    → big_bytes 2 t ++ (0 ∷ 0 ∷ []) ++ big_bytes 2 l ++ get_or xs 6 0 ∷ unit ≡ take (6 + l) xs

-- what a header and a unit spell is the front of the bytes that they were read from
pub spelled-take : (xs : List ℕ) → 8 ≤ length xs → Spells xs
spelled-take [] long = absurd (omega (arith, long))
spelled-take (a ∷ []) long = absurd (omega (arith, long))
spelled-take (a ∷ b ∷ []) long = absurd (omega (arith, long))
spelled-take (a ∷ b ∷ c ∷ []) long = absurd (omega (arith, long))
spelled-take (a ∷ b ∷ c ∷ d ∷ []) long = absurd (omega (arith, long))
spelled-take (a ∷ b ∷ c ∷ d ∷ e ∷ []) long = absurd (omega (arith, long))
spelled-take (a ∷ b ∷ c ∷ d ∷ e ∷ f ∷ []) long = absurd (omega (arith, long))
spelled-take (a ∷ b ∷ c ∷ d ∷ e ∷ f ∷ g ∷ xs) long = λ t l unit least protocol l-is t-is bytes unit-is.
    let ct : c ≡ 0 = omega (arith, protocol) in
    let dt : d ≡ 0 = omega (arith, protocol) in
    let ts = bytes_of_pair a b t (bytes 0) (bytes 1) (omega (arith, t-is)) in
    let ls = bytes_of_pair e f l (bytes 4) (bytes 5) (omega (arith, l-is)) in
    rw (ts.0, ts.1, ls.0, ls.1, unit-is, front-bytes a b c d e f g xs l least, ct, dt) refl

-- ---- what a header of six bytes shows

pub wanted-short : (xs : List ℕ) → length xs < 6 → wanted xs ≡ 6
unfolding wanted
wanted-short xs h = grind (arith, h)

pub wanted-long : (xs : List ℕ) → 6 ≤ length xs → wanted xs ≡ 6 + length_of xs
unfolding wanted
wanted-long xs h = grind (arith, h)

pub fault-none : (xs : List ℕ) → 6 ≤ length xs → protocol_of xs ≡ 0 → 2 ≤ length_of xs → length_of xs ≤ 254 → fault_of xs ≡ None
unfolding fault_of header_fault
fault-none xs h p low high = grind (arith, h, p, low, high)

-- `&s[n..]`
pub rest_of : (n : ℕ) (xs : List ℕ) → take (length xs - n) (drop n xs) ≡ drop n xs
rest_of n xs = take_all (length xs - n) (drop n xs) (omega (arith, length-drop n xs))

-- what `step_of` answers for a whole frame
pub whole-means : (xs unit : List ℕ) (t l p : ℕ) → 6 ≤ length xs → 6 + l ≤ length xs → 2 ≤ l → l ≤ 254
    → p ≡ big_number 2 (take (length xs - 2) (drop 2 xs)) → p ≡ 0 → l ≡ big_number 2 (take (length xs - 4) (drop 4 xs)) → t ≡ big_number 2 xs → t < 65536
    → ((k : ℕ) → get_or xs k 0 < 256) → unit ≡ take (6 + l - 7) (drop 7 xs)
    → StepMeans xs (Whole (record { transaction = t; unit_id = get_or xs 6 0; unit = unit }))
whole-means xs unit t l p six long least most p-eq p-is l-eq t-is t-fits bytes unit-eq =
    let l-is : l ≡ big_number 2 (drop 4 xs) = rw (sym (rest_of 4 xs)) l-eq in
    let protocol : big_number 2 (drop 2 xs) ≡ 0 = rw (sym (rest_of 2 xs)) (sym p-eq ∙ p-is) in
    let minus : 6 + l - 7 ≡ l - 1 = omega arith in
    let unit-is : unit ≡ take (l - 1) (drop 7 xs) = rw (sym minus) unit-eq in
    let unit-len : length unit + 1 ≡ l = rw unit-eq (omega (arith, length-take (6 + l - 7) (drop 7 xs), length-drop 7 xs)) in
    let w : wanted xs ≡ 6 + l = rw l-is (wanted-long xs six) in (
      record { transaction = t-fits; unit_id = bytes 6; not_empty = omega arith; short = omega arith },
      rw (unit-len, w) (spelled-take xs (omega arith) t l unit least protocol l-is t-is bytes unit-is),
      rw w long,
      fault-none xs six protocol (omega arith) (omega arith),
    )
