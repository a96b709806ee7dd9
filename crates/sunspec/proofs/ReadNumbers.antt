-- The number that registers mean which are judged first.
use Rattle.std.proofs.Common.{ℤ, map, ◌==◌, if◌then◌else◌, ◌≡◌, ◌≢◌, ◌≤◌, ◌∙◌, ℕ, Bool, true, false, cond, nat_le, List, length, Some, None, refl, ap, sym}
use Rattle.std.proofs.lemmas.Option.{none-some, same_Some}
use Rattle.std.proofs.lemmas.Bool.{eq-eqb, leb-true}
use Rattle.sunspec.specs.PointType.{row, bits_of, is_unimplemented}
use Rattle.sunspec.specs.Value.{AreRegistersOf, are_registers, is_sum_of, number_in, number_meant, register_sum, text_meant, value}
use Rattle.sunspec.specs.Text.{printable, shown, string_shown, value_shown}
use Rattle.sunspec.specs.WordOrder.{arranged, number_read}
use Rattle.sunspec.specs.declared.point_type.PointType.{PointType}
use Rattle.sunspec.specs.declared.point_type.Content.{Content}
use Rattle.sunspec.specs.declared.point_type.Content.TheVariants.{Signed, Unsigned, Address, Bit as Cell, Text}
use Rattle.sunspec.specs.declared.value.Value.{Value}
use Rattle.sunspec.specs.declared.value.Value.TheVariants.{Number, Unimplemented, Text as TextValue}
use Rattle.sunspec.specs.declared.word_order.WordOrder.{WordOrder}
use Rattle.sunspec.specs.declared.word_order.WordOrder.TheVariants.{Big, Swapped}
use Rattle.sunspec.proofs.Arranged.{one_alone}
use Rattle.sunspec.proofs.Meanings.{value_number, value_text}
use Rattle.sunspec.proofs.Table.{cell_row}

-- turning registers round makes no sum that a bit can't have, since it has one register
sum_either_way : (content : Content) (order : WordOrder) (words : List ℕ) → (content ≡ Cell → length words ≡ 1)
    → is_sum_of content (register_sum words) ≡ is_sum_of content (register_sum (arranged order words))
sum_either_way content Big words one = refl
sum_either_way Cell Swapped words one = ap (λ (l : List ℕ). nat_le (register_sum l) 1) (sym (one_alone words (one refl)))
sum_either_way Signed Swapped words one = refl
sum_either_way Unsigned Swapped words one = refl
sum_either_way Address Swapped words one = refl
sum_either_way Text Swapped words one = refl

pub are_judged : (kind : PointType) (order : WordOrder) (words : List ℕ) → length words ≡ (row kind).registers
    → are_registers kind words ≡ is_sum_of (row kind).content (register_sum (arranged order words))
are_judged kind order words count =
    rw (eq-eqb (length words) (row kind).registers count)
    (sum_either_way (row kind).content order words (λ cell. count ∙ cell_row kind cell))

cell_within : (content : Content) (sum : ℕ) → is_sum_of content sum ≡ true → content ≡ Cell → sum ≤ 1
cell_within Cell sum is cell = leb-true sum 1 is
cell_within Signed sum is cell = cc
cell_within Unsigned sum is cell = cc
cell_within Address sum is cell = cc
cell_within Text sum is cell = cc

pub judged_registers : (kind : PointType) (order : WordOrder) (words : List ℕ) → length words ≡ (row kind).registers
    → is_sum_of (row kind).content (register_sum (arranged order words)) ≡ true → AreRegistersOf kind words
judged_registers kind order words count is = record {
  count = count;
  cell = λ cell. cell_within (row kind).content (register_sum words) (sum_either_way (row kind).content order words (λ bit. count ∙ cell_row kind bit) ∙ is) cell;
}

-- registers of a sum that a bit can't have, or that say that the point isn't there, mean no number
pub none_read : (kind : PointType) (order : WordOrder) (words : List ℕ) → length words ≡ (row kind).registers
    → is_sum_of (row kind).content (register_sum (arranged order words)) ≡ false → None ≡ number_read kind order words
none_read kind order words count is = rw (are_judged kind order words count ∙ is) refl

if_none : (b : Bool) → None ≡ cond b (number_in Unimplemented) None
if_none true = refl
if_none false = refl

pub none_there : (kind : PointType) (order : WordOrder) (words : List ℕ)
    → is_unimplemented (row kind).unimplemented (register_sum (arranged order words)) ≡ true → None ≡ number_read kind order words
none_there kind order words is = rw is (if_none (are_registers kind words))

-- all others mean one
pub some_read : (kind : PointType) (order : WordOrder) (words : List ℕ) → length words ≡ (row kind).registers → (row kind).content ≢ Text
    → is_sum_of (row kind).content (register_sum (arranged order words)) ≡ true
    → is_unimplemented (row kind).unimplemented (register_sum (arranged order words)) ≡ false
    → Some (number_meant (row kind).content (bits_of kind) (register_sum (arranged order words))) ≡ number_read kind order words
some_read kind order words count number is there =
    rw (are_judged kind order words count ∙ is, value_number kind (arranged order words) number, there) refl

-- ---- numbers and their values

pub number_is : (v : Value) (z : ℤ) → Some z ≡ number_in v → Number z ≡ v
number_is (Number n) z is = ap Number (same_Some z n is)
number_is (TextValue text) z is = absurd (none-some z (sym is))
number_is Unimplemented z is = absurd (none-some z (sym is))

-- a type that is no string's has a number, or isn't implemented
pub none_is : (kind : PointType) (words : List ℕ) → (row kind).content ≢ Text → None ≡ number_in (value kind words) → Unimplemented ≡ value kind words
none_is kind words number is =
    by (is_unimplemented (row kind).unimplemented (register_sum words)) (is ∙ ap number_in (value_number kind words number)) ∙ sym (value_number kind words number)
  where
    by : (b : Bool) → None ≡ number_in (cond b Unimplemented (Number (number_meant (row kind).content (bits_of kind) (register_sum words))))
        → Unimplemented ≡ cond b Unimplemented (Number (number_meant (row kind).content (bits_of kind) (register_sum words)))
    by true e = refl
    by false e = absurd (none-some _ e)

-- a string's registers as they are shown
pub string_is : (kind : PointType) (scale : ℤ) (words : List ℕ) → (row kind).content ≡ Text → string_shown words ≡ shown kind scale words
string_is kind scale words text = by (register_sum words == 0) ∙ ap (value_shown (row kind).content scale words) (sym (value_text kind words text))
  where
    by : (b : Bool) → cond b None (Some (map printable (text_meant words))) ≡ value_shown (row kind).content scale words (cond b Unimplemented (TextValue (text_meant words)))
    by true = refl
    by false = refl

-- what is shown of a text, and where there is none
pub text_is : (words text : List ℕ) → TextValue text ≡ (if register_sum words == 0 then Unimplemented else TextValue (text_meant words)) → Some (map printable text) ≡ string_shown words
text_is words text = by (register_sum words == 0)
  where
    by : (b : Bool) → TextValue text ≡ cond b Unimplemented (TextValue (text_meant words)) → Some (map printable text) ≡ cond b None (Some (map printable (text_meant words)))
    by true e = absurd (cc)
    by false e = ap (λ (t : List ℕ). Some (map printable t)) (cc)

pub no_text_is : (words : List ℕ) → ((text : List ℕ) → (if register_sum words == 0 then Unimplemented else TextValue (text_meant words)) ≢ TextValue text) → None ≡ string_shown words
no_text_is words = by (register_sum words == 0)
  where
    by : (b : Bool) → ((text : List ℕ) → cond b Unimplemented (TextValue (text_meant words)) ≢ TextValue text) → None ≡ cond b None (Some (map printable (text_meant words)))
    by true none = refl
    by false none = absurd (none (text_meant words) refl)
