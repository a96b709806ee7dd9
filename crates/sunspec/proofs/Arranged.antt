-- Registers that are sent in an order, the most significant first.
use Rattle.std.proofs.Common.{◌≡◌, ◌≢◌, ◌<◌, ◌≤◌, ◌∙◌, ℕ, ℤ, List, [], ◌∷◌, length, reverse, refl, sym, ap, subst, arith}
use Rattle.std.proofs.lemmas.List.{length-reverse, reverse-reverse}
use Rattle.std.proofs.lemmas.List.Sorted.{All-permutation, IsPermutation-reverse}
use Rattle.sunspec.specs.Value.{AreRegistersOf, AreWords, register_sum, value}
use Rattle.sunspec.specs.WordOrder.{arranged}
use Rattle.sunspec.specs.declared.point_type.PointType.{PointType}
use Rattle.sunspec.specs.declared.word_order.WordOrder.{WordOrder}
use Rattle.sunspec.specs.declared.word_order.WordOrder.TheVariants.{Big, Swapped}
use Rattle.sunspec.specs.declared.value.Value.TheVariants.{Number}
use Rattle.sunspec.proofs.RoundTrips.{one_number}
use Rattle.sunspec.proofs.Table.{cell_row}

pub arranged_twice : (order : WordOrder) (words : List ℕ) → arranged order (arranged order words) ≡ words
arranged_twice Big words = refl
arranged_twice Swapped words = reverse-reverse words

pub arranged_words : (order : WordOrder) (words : List ℕ) → AreWords words → AreWords (arranged order words)
arranged_words Big words fits = fits
arranged_words Swapped words fits = All-permutation (λ (word : ℕ). word < 65536) words (reverse words) (IsPermutation-reverse words) fits

pub one_alone : (words : List ℕ) → length words ≡ 1 → reverse words ≡ words
one_alone [] one = absurd (omega arith)
one_alone (word ∷ []) one = refl
one_alone (word ∷ next ∷ words) one = absurd (omega arith)

pub reversed_registers : (kind : PointType) (words : List ℕ) → AreRegistersOf kind words → AreRegistersOf kind (reverse words)
reversed_registers kind words are = record {
  count = length-reverse words ∙ are.count;
  cell = λ cell. subst (λ (l : List ℕ). register_sum l ≤ 1) (sym (one_alone words (are.count ∙ cell_row kind cell))) (are.cell cell);
}

pub arranged_registers : (kind : PointType) (order : WordOrder) (words : List ℕ) → AreRegistersOf kind words → AreRegistersOf kind (arranged order words)
arranged_registers kind Big words are = are
arranged_registers kind Swapped words are = reversed_registers kind words are

-- where no registers have the number as their value, none have it in an order
pub none_arranged : (kind : PointType) (order : WordOrder) (z : ℤ)
    → ((words : List ℕ) → AreWords words → AreRegistersOf kind words → value kind words ≢ Number z)
    → (words : List ℕ) → AreWords words → AreRegistersOf kind words → value kind (arranged order words) ≢ Number z
none_arranged kind order z none words fits are = none (arranged order words) (arranged_words order words fits) (arranged_registers kind order words are)

pub one_arranged : (kind : PointType) (order : WordOrder) (number : ℤ) (a b : List ℕ) → AreWords a → AreWords b → AreRegistersOf kind a → AreRegistersOf kind b
    → value kind (arranged order a) ≡ Number number → value kind (arranged order b) ≡ Number number → a ≡ b
one_arranged kind order number a b words-a words-b of-a of-b is-a is-b =
    let same = one_number kind number (arranged order a) (arranged order b) (arranged_words order a words-a) (arranged_words order b words-b)
    (arranged_registers kind order a of-a) (arranged_registers kind order b of-b) is-a is-b in
    sym (arranged_twice order a) ∙ ap (arranged order) same ∙ arranged_twice order b
