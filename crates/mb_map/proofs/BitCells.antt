-- Cells that hold bits: as they are made, read and written.
use Rattle.std.proofs.Common.{◌≡◌, ℕ, zero, suc, ◌+◌, ◌-◌, ◌<◌, ◌≤◌, true, false, cond, eqb, leb, ltb, ◌&&◌, Bool, List, [], ◌∷◌, length, get_or, map, replicate, All, refl, sym, ap, ◌∙◌, subst, arith, inl, inr}
use Rattle.std.specs.Prelude.{IfSome}
use Rattle.std.specs.Bool.{OnTrue, OnFalse}
use Rattle.std.specs.List.{enumerate_from}
use Rattle.std.proofs.lemmas.List.{ext_get_or, get_or-map, get_or-replicate, get_or_past, length-map, length-replicate}
use Rattle.std.proofs.lemmas.Bool.{cases_lt}
use Rattle.std.proofs.lemmas.List.Elements.{All-from_get_or, All-map}
use Rattle.std.proofs.lemmas.List.FromFn.{get_or-enumerate_from, length-enumerate_from}
use Rattle.std.proofs.lemmas.Map.Entries.{All-lookup}
use Rattle.mb_map.specs.Device.{number_of}
use Rattle.mb_map.specs.Tables.{Cells, AreBits, Holds, cell_at, number_after, written, zeros}

pub bits_zeros : (start size : ℕ) → AreBits (zeros start size)
bits_zeros start size =
    All-from_get_or (λ (c : ℕ × ℕ). c.1 ≤ 1) (zeros start size) (0, 0) (λ i lt.
    let nothing : List ℕ = replicate size 0 in
    let inside : i < length nothing = omega (arith, length-enumerate_from start nothing) in
    let below : i < size = omega (arith, length-enumerate_from start nothing, length-replicate size zero) in
    let zero_there : get_or nothing i 0 ≡ 0 = get_or-replicate size i 0 0 below in
    rw (get_or-enumerate_from start nothing i (0, 0) inside, zero_there) (omega arith))

pub bits_cell : (address : ℕ) (cells : Cells) → AreBits cells → IfSome (cell_at address cells) (λ n. n ≤ 1)
bits_cell address cells bits = All-lookup (λ (n : ℕ). n ≤ 1) (λ k. eqb address k) cells bits

-- a number that was written is one of those, or it stood there before
bit_after : (start : ℕ) (numbers : List ℕ) (address old : ℕ) → ((i : ℕ) → get_or numbers i 0 ≤ 1) → old ≤ 1 → number_after start numbers address old ≤ 1
bit_after start numbers address old new before =
    elim (leb start address && ltb address (start + length numbers)) as (λ b. cond b (get_or numbers (address - start) 0) old ≤ 1) [ true ↦ new (address - start) | false ↦ before ]

pub bits_written : (start : ℕ) (numbers : List ℕ) (cells : Cells) → ((i : ℕ) → get_or numbers i 0 ≤ 1) → AreBits cells → AreBits (written start numbers cells)
unfolding written
bits_written start numbers cells new bits =
    All-map (λ (c : ℕ × ℕ). c.1 ≤ 1) (λ (c : ℕ × ℕ). (c.0, number_after start numbers c.0 c.1)) cells
    (λ k d lt. bit_after start numbers (get_or cells k d).0 (get_or cells k d).1 new (bits k d lt))

one_number : (n i : ℕ) → n ≤ 1 → get_or (n ∷ []) i 0 ≤ 1
one_number n zero le = le
one_number n (suc i) le = omega arith

-- after a cell was set, or wasn't
pub bits_set : (done : Bool) (old new : Cells) (address number : ℕ) → OnTrue done (new ≡ written address (number ∷ []) old) → OnFalse done (new ≡ old) → number ≤ 1 → AreBits old → AreBits new
bits_set true old new address number is same le bits = subst AreBits (sym is) (bits_written address (number ∷ []) old (λ i. one_number number i le) bits)
bits_set false old new address number is same le bits = subst AreBits (sym same) bits

-- the numbers of a range of bit cells
pub range_bits : (start : ℕ) (numbers : List ℕ) (cells : Cells) → AreBits cells → Holds start numbers cells → (k : ℕ) → get_or numbers k 0 ≤ 1
range_bits start numbers cells bits holds k = elim (cases_lt k (length numbers)) [
  | inl lt ↦ rw (holds k lt) at (bits_cell (start + k) cells bits)
  | inr past ↦ rw (get_or_past numbers k 0 past) (omega arith)
]

bit_again : (n : ℕ) → n ≤ 1 → number_of (eqb n 1) ≡ n
bit_again zero le = refl
bit_again (suc zero) le = refl
bit_again (suc (suc n)) le = absurd (omega arith)

-- bits that were read from numbers of 0 and 1
pub bits_again : (bits : List Bool) (numbers : List ℕ) → length bits ≡ length numbers → ((k : ℕ) → get_or numbers k 0 ≤ 1)
    → ((k : ℕ) → k < length numbers → get_or bits k false ≡ eqb (get_or numbers k 0) 1) → map number_of bits ≡ numbers
bits_again bits numbers count small each = ext_get_or 0 (map number_of bits) numbers (length-map bits number_of ∙ count) (λ k lt.
    let below : k < length bits = omega (arith, length-map bits number_of) in
    get_or-map number_of bits k false 0 below ∙ ap number_of (each k (omega arith)) ∙ bit_again (get_or numbers k 0) (small k))

-- numbers that were made of bits
pub numbers_again : (bits : List Bool) (numbers : List ℕ) → length numbers ≡ length bits
    → ((k : ℕ) → k < length bits → get_or numbers k 0 ≡ number_of (get_or bits k false)) → numbers ≡ map number_of bits
numbers_again bits numbers count each = ext_get_or 0 numbers (map number_of bits) (count ∙ sym (length-map bits number_of)) (λ k lt.
    let below : k < length bits = omega arith in
    each k below ∙ sym (get_or-map number_of bits k false 0 below))

pub bit_small : (bit : Bool) → number_of bit ≤ 1
bit_small true = omega arith
bit_small false = omega arith

pub bits_small : (bits : List Bool) (k : ℕ) → get_or (map number_of bits) k 0 ≤ 1
bits_small [] k = omega arith
bits_small (b ∷ bits) zero = bit_small b
bits_small (b ∷ bits) (suc k) = bits_small bits k

-- after bits were written, or weren't
pub bits_put : (done : Bool) (old new : Cells) (start : ℕ) (bits : List Bool) → OnTrue done (new ≡ written start (map number_of bits) old) → OnFalse done (new ≡ old) → AreBits old → AreBits new
bits_put true old new start bits is same before = subst AreBits (sym is) (bits_written start (map number_of bits) old (bits_small bits) before)
bits_put false old new start bits is same before = subst AreBits (sym same) before

-- cells of numbers that are small
pub small_cells : (start : ℕ) (numbers : List ℕ) (greatest : ℕ) → All (λ n. n ≤ greatest) numbers → All (λ (c : ℕ × ℕ). c.1 ≤ greatest) (enumerate_from start numbers)
small_cells start numbers greatest small =
    All-from_get_or (λ (c : ℕ × ℕ). c.1 ≤ greatest) (enumerate_from start numbers) (0, 0) (λ i lt.
    let inside : i < length numbers = omega (arith, length-enumerate_from start numbers) in
    rw (get_or-enumerate_from start numbers i (0, 0) inside) (small i 0 inside))
