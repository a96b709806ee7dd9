-- Slots of 32 bits.
use Rattle.std.proofs.Common.{◌<◌, ◌^◌, ℕ, List, [], ◌∷◌, set, take, drop}
use Rattle.std.specs.Prelude.{All}
use Rattle.std.specs.List.{insert}
use Rattle.std.proofs.lemmas.List.Elements.{All-nil, All-head, All-tail, All-append, All-cons, All-drop, All-map, All-set, All-take}
use Rattle.poll_book.specs.declared.history.SlotRow.{SlotRow}
use Rattle.poll_book.specs.declared.history.History.{History}
use Rattle.poll_book.specs.declared.rows.Reading.{Reading}
use Rattle.poll_book.specs.Tables.{Key}
use Rattle.poll_book.specs.Histories.{as_entry, readings_of, slots_of, AreSmall}

abbrev IsSmall : SlotRow → Type 0
IsSmall row = row.slot < 2 ^ 32

pub small_set : (slots : List SlotRow) (at : ℕ) (row : SlotRow) → row.slot < 2 ^ 32 → AreSmall slots → AreSmall (set slots at row)
small_set slots at row small all = All-set IsSmall slots at row small all

pub small_insert : (slots : List SlotRow) (at : ℕ) (row : SlotRow) → row.slot < 2 ^ 32 → AreSmall slots → AreSmall (insert slots at row)
small_insert slots at row small all =
    All-append IsSmall (take at slots) (row ∷ drop at slots) (All-take IsSmall at slots all) (All-cons IsSmall row (drop at slots) small (All-drop IsSmall at slots all))

abbrev IsSmallKey : Key × Reading → Type 0
IsSmallKey row = row.0.1 < 2 ^ 32

-- so are those of the rows of all points
pub small_readings : (histories : List History) → All (λ history. AreSmall history.slots.items) histories → All (λ row. row.0.1 < 2 ^ 32) (readings_of histories)
small_readings [] all = All-nil IsSmallKey
small_readings (history ∷ histories) all =
    All-append IsSmallKey (slots_of history.point history.slots.items) (readings_of histories)
    (All-map IsSmallKey (as_entry history.point) history.slots.items (All-head (λ (h : History). AreSmall h.slots.items) history histories all))
    (small_readings histories (All-tail (λ (h : History). AreSmall h.slots.items) history histories all))
