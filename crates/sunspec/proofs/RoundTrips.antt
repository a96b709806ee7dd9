-- Names, codes and registers tell what they were made of.
use Rattle.std.proofs.Common.{◌≡◌, ◌<◌, ◌≤◌, ◌+◌, ◌*◌, ◌^◌, ◌∙◌, ℕ, ℤ, suc, true, Some, leb, List, [], ◌∷◌, length, get_or, refl, sym, ap, arith, inl, inr}
use Rattle.std.specs.Prelude.{option_and_then}
use Rattle.std.proofs.lemmas.Bool.{cases_lt}
use Rattle.std.proofs.lemmas.Bool.Decides.{nat_tests}
use Rattle.std.proofs.Math.Nat.{mul-le-mul_right}
use Rattle.sunspec.specs.PointType.{IsSized, bits_of, coded, named, resized, row}
use Rattle.sunspec.specs.Value.{AreRegistersOf, AreWords, register_sum, value}
use Rattle.sunspec.specs.declared.point_type.PointType.{PointType}
use Rattle.sunspec.specs.declared.point_type.PointType.TheVariants.{Int16, Uint16, Acc16, Enum16, Bitfield16, Sunssf, Int32, Uint32, Acc32, Enum32, Bitfield32, Int64, Uint64, Acc64, Ipaddr, Str, Bit}
use Rattle.sunspec.specs.declared.value.Value.TheVariants.{Number}
use Rattle.sunspec.proofs.Table.{some_bits}
use Rattle.sunspec.proofs.Meanings.{sum_fits}
use Rattle.sunspec.proofs.Sums.{register_sum_below}
use Rattle.sunspec.proofs.Encodings.{number_of_value, same_meaning, word_fits}

resized-string : (registers : ℕ) → 1 ≤ registers → registers ≤ 125 → resized (Str 1) registers ≡ Some (Str registers)
resized-string registers some few =
    let low : leb 1 registers ≡ true = grind (arith, nat_tests) in
    let high : leb registers 125 ≡ true = grind (arith, nat_tests) in
    rw (low, high) refl

pub named_again : (kind : PointType) → IsSized kind → option_and_then (λ found. resized found (row kind).registers) (named (row kind).name) ≡ Some kind
unfolding row
named_again Int16 sized = refl
named_again Uint16 sized = refl
named_again Acc16 sized = refl
named_again Enum16 sized = refl
named_again Bitfield16 sized = refl
named_again Sunssf sized = refl
named_again Int32 sized = refl
named_again Uint32 sized = refl
named_again Acc32 sized = refl
named_again Enum32 sized = refl
named_again Bitfield32 sized = refl
named_again Int64 sized = refl
named_again Uint64 sized = refl
named_again Acc64 sized = refl
named_again Ipaddr sized = refl
named_again (Str registers) sized = resized-string registers sized.0 sized.1
named_again Bit sized = refl

pub coded_again : (kind : PointType) → IsSized kind → option_and_then (λ found. resized found (row kind).registers) (coded (row kind).code) ≡ Some kind
unfolding row
coded_again Int16 sized = refl
coded_again Uint16 sized = refl
coded_again Acc16 sized = refl
coded_again Enum16 sized = refl
coded_again Bitfield16 sized = refl
coded_again Sunssf sized = refl
coded_again Int32 sized = refl
coded_again Uint32 sized = refl
coded_again Acc32 sized = refl
coded_again Enum32 sized = refl
coded_again Bitfield32 sized = refl
coded_again Int64 sized = refl
coded_again Uint64 sized = refl
coded_again Acc64 sized = refl
coded_again Ipaddr sized = refl
coded_again (Str registers) sized = resized-string registers sized.0 sized.1
coded_again Bit sized = refl

pub same_name : (a b : PointType) → IsSized a → IsSized b → (row a).registers ≡ (row b).registers → (row a).name ≡ (row b).name → a ≡ b
same_name a b sized-a sized-b registers name =
    let same : Some a ≡ Some b = sym (named_again a sized-a) ∙ rw (registers, name) (named_again b sized-b) in
    cc

pub same_code : (a b : PointType) → IsSized a → IsSized b → (row a).registers ≡ (row b).registers → (row a).code ≡ (row b).code → a ≡ b
same_code a b sized-a sized-b registers code =
    let same : Some a ≡ Some b = sym (coded_again a sized-a) ∙ rw (registers, code) (coded_again b sized-b) in
    cc

-- a front and a rest below a power are those of one number
one_front : (x y r s power : ℕ) → r < power → s < power → x * power + r ≡ y * power + s → x ≡ y
one_front x y r s power low-r low-s e = elim (cases_lt x y) [
  | inl lt ↦ absurd (let up : suc x * power ≤ y * power = mul-le-mul_right power lt in omega (arith, up))
  | inr le ↦ elim (cases_lt y x) [
    | inl lt ↦ absurd (let up : suc y * power ≤ x * power = mul-le-mul_right power lt in omega (arith, up))
    | inr ge ↦ omega arith
  ]
]

pub same_sum : (a b : List ℕ) → length a ≡ length b → ((i : ℕ) → get_or a i 0 < 65536) → ((i : ℕ) → get_or b i 0 < 65536) → register_sum a ≡ register_sum b → a ≡ b
same_sum [] [] count fits-a fits-b e = refl
same_sum [] (y ∷ ys) count fits-a fits-b e = absurd (omega arith)
same_sum (x ∷ xs) [] count fits-a fits-b e = absurd (omega arith)
same_sum (x ∷ xs) (y ∷ ys) count fits-a fits-b e =
    let counts : length xs ≡ length ys = omega arith in
    let low-x : register_sum xs < 65536 ^ length ys = rw (← counts) (register_sum_below xs (λ i. fits-a (suc i))) in
    let low-y = register_sum_below ys (λ i. fits-b (suc i)) in
    let sums : x * 65536 ^ length ys + register_sum xs ≡ y * 65536 ^ length ys + register_sum ys = rw counts at e in
    let front : x ≡ y = one_front x y (register_sum xs) (register_sum ys) (65536 ^ length ys) low-x low-y sums in
    let products : x * 65536 ^ length ys ≡ y * 65536 ^ length ys = ap (λ (n : ℕ). n * 65536 ^ length ys) front in
    let rest : register_sum xs ≡ register_sum ys = omega arith in
    let tail : xs ≡ ys = same_sum xs ys counts (λ i. fits-a (suc i)) (λ i. fits-b (suc i)) rest in
    rw (front, tail) refl

pub one_number : (kind : PointType) (number : ℤ) (a b : List ℕ) → AreWords a → AreWords b → AreRegistersOf kind a → AreRegistersOf kind b → value kind a ≡ Number number → value kind b ≡ Number number → a ≡ b
one_number kind number a b words-a words-b of-a of-b is-a is-b =
    let parts-a = number_of_value kind a number is-a in
    let parts-b = number_of_value kind b number is-b in
    let fits-a = sum_fits kind a parts-a.0 of-a (word_fits a words-a) in
    let fits-b = sum_fits kind b parts-a.0 of-b (word_fits b words-b) in
    let sums = same_meaning (row kind).content (bits_of kind) (register_sum a) (register_sum b) (some_bits kind parts-a.0) fits-a fits-b (parts-a.2 ∙ sym parts-b.2) in
    same_sum a b (of-a.count ∙ sym of-b.count) (word_fits a words-a) (word_fits b words-b) sums
