-- What a reading that a keeper lacks does to the total of its point.
use Rattle.std.proofs.Common.{◌≡◌, ℕ, Bool, true, false, cond, ◌&&◌, List, Option, Some, None, refl, ap, sym, ◌∙◌}
use Rattle.std.specs.Prelude.{is_none, is_some, not}
use Rattle.std.proofs.lemmas.Option.{none-some}
use Rattle.point_list.specs.declared.point.Point.{Point}
use Rattle.poll_book.specs.declared.rows.PointRow.{PointRow}
use Rattle.poll_book.specs.declared.rows.Reading.{Reading}
use Rattle.poll_book.specs.Tables.{Key, Readings, Voids, is_void, marked_one, reading_at, with_row}
use Rattle.poll_book.specs.Totals.{counted_number, is_counter, number_within, reading_number, total}
use Rattle.poll_book.specs.Changes.{keyed_one, new_sum}
use Rattle.sunspec.specs.WordOrder.{number_read}

-- the number of registers that count in a slot
abbrev pub number_in : Voids → ℕ → PointRow → List ℕ → Option ℕ
number_in voids slot known words = cond (is_void voids (known.number, slot)) None (counted_number known.point words)

-- a number that counts is a counter's
pub of_counter : (point : Point) (words : List ℕ) (n : ℕ) → counted_number point words ≡ Some n → is_counter point.role ≡ true
of_counter point words n e = by (is_counter point.role) refl e
  where
    by : (b : Bool) → is_counter point.role ≡ b → cond b (number_within point.roll (number_read point.kind point.order words)) None ≡ Some n → b ≡ true
    by true is f = refl
    by false is f = absurd (none-some n f)

-- a slot that isn't voided has the number of the registers
pub its_own : (voided : Bool) (o : Option ℕ) (n : ℕ) → cond voided None o ≡ Some n → o ≡ Some n
its_own true o n e = absurd (none-some n e)
its_own false o n e = e

marks : (voided : Bool) (o : Option ℕ) → not voided && is_some o ≡ is_some (cond voided None o)
marks true o = refl
marks false o = refl

-- a reading is marked by whether it has a number
pub mark_is : (voids : Voids) (slot : ℕ) (known : PointRow) (words : List ℕ) → (marked_one voids (keyed_one slot (known, words))).1.counted ≡ is_some (number_in voids slot known words)
mark_is voids slot known words = marks (is_void voids (known.number, slot)) (counted_number known.point words)

pub row_is : (voids : Voids) (slot : ℕ) (known : PointRow) (words : List ℕ) (number : Option ℕ) → number ≡ number_in voids slot known words
    → (let row : Key × Reading = ((known.number, slot), record { words = words; counted = is_some number }) in row) ≡ marked_one voids (keyed_one slot (known, words))
row_is voids slot known words number is =
    ap (λ b. (let row : Key × Reading = ((known.number, slot), record { words = words; counted = b }) in row)) (ap is_some is ∙ sym (mark_is voids slot known words))

-- the reading counts with that number
pub its_number : (voids : Voids) (slot : ℕ) (known : PointRow) (words : List ℕ) (n : ℕ) → number_in voids slot known words ≡ Some n
    → reading_number known.point (marked_one voids (keyed_one slot (known, words))).1 ≡ Some n
its_number voids slot known words n e =
    ap (λ b. cond b (counted_number known.point words) None) (mark_is voids slot known words ∙ ap is_some e)
    ∙ its_own (is_void voids (known.number, slot)) (counted_number known.point words) n e

-- one that the table lacks and that counts changes the total
pub lacked : (voids : Voids) (table : Readings) (slot : ℕ) (known : PointRow) (words : List ℕ) (n : ℕ) → reading_at table (known.number, slot) ≡ None → number_in voids slot known words ≡ Some n
    → new_sum voids table slot (known, words) ≡ Some (known.number, total known (with_row (known.number, slot) (marked_one voids (keyed_one slot (known, words))).1 table))
lacked voids table slot known words n none counts =
    let found = Some (known.number, total known (with_row (known.number, slot) (marked_one voids (keyed_one slot (known, words))).1 table)) in
    ap (λ b. cond (b && (marked_one voids (keyed_one slot (known, words))).1.counted) found None) (ap is_none none)
    ∙ ap (λ b. cond b found None) (mark_is voids slot known words ∙ ap is_some counts)

-- one that doesn't count changes none
pub uncounted : (voids : Voids) (table : Readings) (slot : ℕ) (known : PointRow) (words : List ℕ) → number_in voids slot known words ≡ None → new_sum voids table slot (known, words) ≡ None
uncounted voids table slot known words e =
    by (is_none (reading_at table (known.number, slot))) (Some (known.number, total known (with_row (known.number, slot) (marked_one voids (keyed_one slot (known, words))).1 table))) (mark_is voids slot known words ∙ ap is_some e)
  where
    by : (a : Bool) (o : Option (ℕ × ℕ)) → (marked_one voids (keyed_one slot (known, words))).1.counted ≡ false → cond (a && (marked_one voids (keyed_one slot (known, words))).1.counted) o None ≡ None
    by true o f = ap (λ b. cond b o None) f
    by false o f = refl

pub none_there : (o : Option Reading) → is_some o ≡ false → o ≡ None
none_there None e = refl
none_there (Some r) e = absurd (cc)
