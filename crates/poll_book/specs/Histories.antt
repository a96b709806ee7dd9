-- Readings by points and slots: of each point a list by slot.
use Rattle.std.specs.Prelude.{◌≡◌, ℕ, suc, ◌+◌, ◌^◌, ◌<◌, ◌≤◌, ◌==◌, List, [], ◌∷◌, ◌++◌, All, Contains, map, filter, filter_map, take, drop, length, get_or, count_by, vec_len, vec_capacity, Option, None, Some}
use Rattle.poll_book.specs.Tables.{Key, Readings}
use Rattle.poll_book.specs.Totals.{last_of, reading_number}
use Rattle.point_list.specs.declared.point.Point.{Point}
use Rattle.poll_book.specs.declared.rows.Reading.{Reading}
use Rattle.poll_book.specs.declared.rows.ReadingRow.{ReadingRow}
use Rattle.poll_book.specs.declared.history.SlotRow.{SlotRow}
use Rattle.poll_book.specs.declared.history.History.{History}

abbrev pub slot_of : SlotRow → ℕ
slot_of row = row.slot

abbrev pub point_of : History → ℕ
point_of history = history.point

abbrev pub as_entry : ℕ → SlotRow → Key × Reading
as_entry point row = ((point, row.slot), row.reading)

-- the rows of a point's slots
abbrev pub slots_of : ℕ → List SlotRow → Readings
slots_of point slots = map (as_entry point) slots

-- the rows of all points
abbrev pub readings_of : List History → Readings
readings_of [] = []
readings_of (history ∷ histories) = slots_of history.point history.slots.items ++ readings_of histories

-- the rows of one point
abbrev pub own : ℕ → Readings → Readings
own point table = filter (λ row. row.0.0 == point) table

-- the slot behind a row, and 0 behind none
abbrev pub slot_behind : Option (Key × Reading) → ℕ
slot_behind None = 0
slot_behind (Some row) = row.0.1 + 1

-- the slot behind the last row of a point
abbrev pub end_of : ℕ → Readings → ℕ
end_of point table = slot_behind (last_of (own point table))

-- the keys rise, so no key comes twice
abbrev pub IsRising : {X : Type 0} → (X → ℕ) → List X → Type 0
IsRising {X} key xs = (i j : ℕ) (d : X) → i < j → j < length xs → key (get_or xs i d) < key (get_or xs j d)

-- the key stands at the place: smaller keys before it, and greater ones after it
pub record IsAt {X : Type 0} (key : X → ℕ) (xs : List X) (k place : ℕ) : Type 0 where
  pub in_range : place < length xs
  pub below : All (λ x. key x < k) (take place xs)
  pub same : (d : X) → key (get_or xs place d) ≡ k
  pub above : All (λ x. k < key x) (drop (suc place) xs)

-- the key would go at the place: smaller keys before it, and greater ones from it on
pub record IsGap {X : Type 0} (key : X → ℕ) (xs : List X) (k place : ℕ) : Type 0 where
  pub in_range : place ≤ length xs
  pub below : All (λ x. key x < k) (take place xs)
  pub above : All (λ x. k < key x) (drop place xs)

-- slots are numbers of 32 bits
abbrev pub AreSmall : List SlotRow → Type 0
AreSmall slots = All (λ row. row.slot < 2 ^ 32) slots

-- histories by point, and each by slot
pub record AreOrdered (histories : List History) : Type 0 where
  pub points : IsRising point_of histories
  pub slots : All (λ history. IsRising slot_of history.slots.items) histories
  pub small : All (λ history. AreSmall history.slots.items) histories

-- each history has room for its rows among these
abbrev pub HaveRoom : List History → List ReadingRow → Type 0
HaveRoom histories added =
    All (λ history. vec_len history.slots + count_by (λ row. row.point == history.point) added ≤ vec_capacity history.slots) histories

-- each of these rows has a history
abbrev pub HaveHistories : List History → List ReadingRow → Type 0
HaveHistories histories added = All (λ row. Contains (map point_of histories) row.point) added

-- the numbers of a point's counted readings
abbrev pub counted_in : Point → List SlotRow → List ℕ
counted_in point slots = filter_map (λ row. reading_number point row.reading) slots
