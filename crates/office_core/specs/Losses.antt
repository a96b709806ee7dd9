-- What a history has of another's readings, and where the slots that count begin and end.
use Rattle.std.specs.Prelude.{◌≡◌, ℕ, List, Option, Some, option_map}
use Rattle.poll_book.specs.declared.rows.PointRow.{PointRow}
use Rattle.poll_book.specs.declared.rows.Reading.{Reading}
use Rattle.poll_book.specs.Tables.{reading_at}
use Rattle.poll_book.specs.Totals.{first_of, last_of}
use Rattle.office_core.specs.History.{History, readings}

-- each reading of the point in the one is there in the other, with the same words
abbrev pub HasReadingsOf : History → History → PointRow → Type 0
HasReadingsOf more less known =
    (slot : ℕ) (reading : Reading) → reading_at (readings less) (known.number, slot) ≡ Some reading
    → (other : Reading) × (reading_at (readings more) (known.number, slot) ≡ Some other) × (other.words ≡ reading.words)

-- the least slot of pairs that lie by slot, and the greatest
abbrev pub first_slot : List (ℕ × ℕ) → Option ℕ
first_slot pairs = option_map (λ (p : ℕ × ℕ). p.0) (first_of pairs)

abbrev pub last_slot : List (ℕ × ℕ) → Option ℕ
last_slot pairs = option_map (λ (p : ℕ × ℕ). p.0) (last_of pairs)
