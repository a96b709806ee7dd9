-- Which readings a point may have, and the number of one that counts.
use Rattle.std.specs.Prelude.{◌≡◌, ◌≤◌, ℕ, Bool, true, ◌&&◌, not, List, [], ◌∷◌, Option, Some, None, if◌then◌else◌}
use Rattle.sunspec.specs.Value.{AreRegistersOf}
use Rattle.point_list.specs.declared.point.Point.{Point}
use Rattle.sqlite_value.specs.Order.{Row}
use Rattle.poll_book.specs.declared.rows.Reading.{Reading}
use Rattle.poll_book.specs.declared.rows.ReadingRow.{ReadingRow}
use Rattle.poll_book.specs.declared.shown.ShownReading.{ShownReading}
use Rattle.poll_book.specs.Tables.{Key}
use Rattle.poll_book.specs.Totals.{counted_number, is_counted, reading_number}
use Rattle.office_store.specs.Rows.{shown_reading}

-- the registers are as the point's type has them, and the reading is marked as counted just where they have a number from 0 to the roll
-- and its slot isn't voided
pub record MayBeOf (point : Point) (is_void : ℕ → Bool) (reading : ReadingRow) : Type 0 where
  pub registers : AreRegistersOf point.kind reading.words
  pub counts : reading.counted ≡ (is_counted point reading.words && not (is_void reading.slot))

-- a reading of which no void is known: the registers are as the point's type has them, and one that is marked as counted has a number from
-- 0 to the roll
pub record CanBeOf (point : Point) (reading : Reading) : Type 0 where
  pub registers : AreRegistersOf point.kind reading.words
  pub counts : reading.counted ≡ true → is_counted point reading.words ≡ true

-- a reading with the mark that these voids have
abbrev pub marked_by : (ℕ → Bool) → ReadingRow → ShownReading
marked_by is_void reading = record { reading = reading; voided = is_void reading.slot }

-- a reading that may be one of the point, with the mark that these voids have
pub record IsShownOf (point : Point) (is_void : ℕ → Bool) (shown : ShownReading) : Type 0 where
  pub may_be : MayBeOf point is_void shown.reading
  pub voided : shown.voided ≡ is_void shown.reading.slot

-- its slot is none before the one, and none behind the other
abbrev pub StandsBetween : ℕ → ℕ → ReadingRow → Type 0
StandsBetween from to reading = (from ≤ reading.slot) × (reading.slot ≤ to)

abbrev pub number_in : Point → ReadingRow → Option ℕ
number_in point row = if row.counted then counted_number point row.words else None

-- an answer shows no reading, or this one, which counts
abbrev pub ShowValue : Point → List Row → Option ℕ → Type 0
ShowValue point shown None = shown ≡ []
ShowValue point shown (Some number) = (row : Row) × (entry : Key × Reading) × (shown ≡ row ∷ []) × (shown_reading row ≡ Some entry) × (reading_number point entry.1 ≡ Some number)
