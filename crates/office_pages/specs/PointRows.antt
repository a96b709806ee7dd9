-- A point as a row of JSON, with its members in the order of their names.
use Rattle.std.specs.Prelude.{◌≡◌, ℕ, ◌*◌, pos, List, ◌++◌, codes, Option, Some, None, ⊤}
use Rattle.serde_json.specs.Data.{Data, null, boolean, string, number, object, unsigned, member, no_members}
use Rattle.serde_json.specs.Written.{compact_text}
use Rattle.sunspec.specs.Text.{scaled}
use Rattle.sunspec.specs.Value.{AreRegistersOf}
use Rattle.point_list.specs.Columns.{role_name}
use Rattle.point_list.specs.declared.point.Point.{Point}
use Rattle.poll_book.specs.declared.shown.ShownReading.{ShownReading}
use Rattle.office_core.specs.Fitting.{HasForm, point_text}
use Rattle.office_pages.specs.Moments.{IsTimeText}
use Rattle.office_pages.specs.declared.seen.Seen.{Seen}

-- a reading has the form of its point's type, as each has that an office recorded
abbrev pub IsFitting : Point → ShownReading → Type 0
IsFitting point shown = HasForm point × AreRegistersOf point.kind shown.reading.words

abbrev pub IsFittingIfAny : Point → Option ShownReading → Type 0
IsFittingIfAny point None = ⊤
IsFittingIfAny point (Some shown) = IsFitting point shown

-- a text, or null where there is none
abbrev pub text_data : Option (List ℕ) → Data
text_data None = null
text_data (Some text) = string text

-- a reading: its slot, its time, what the registers show, and whether the slot is voided
abbrev pub members_of : ShownReading → Data → Data → Data
members_of shown time value =
    object (member (codes "slot") (number (unsigned shown.reading.slot)) (member (codes "time") time (member (codes "value") value (member (codes "void") (boolean shown.voided) no_members))))

abbrev pub reading_data : Point → ShownReading → Option (List ℕ) → Data
reading_data point shown time = members_of shown (text_data time) (text_data (point_text point shown.reading.words))

-- a reading in slots of so many seconds; its time is that of its slot's beginning
abbrev pub IsReading : ℕ → Point → ShownReading → Data → Type 0
IsReading seconds point shown reading = (time : Option (List ℕ)) × IsTimeText (shown.reading.slot * seconds) time × (reading ≡ reading_data point shown time)

-- the last reading, or null where there is none
abbrev pub IsLast : ℕ → Point → Option ShownReading → Data → Type 0
IsLast seconds point None last = last ≡ null
IsLast seconds point (Some shown) last = IsReading seconds point shown last

-- how far a counter went, with its scale; null for another point
abbrev pub total_data : Point → Option ℕ → Data
total_data point None = null
total_data point (Some total) = string (scaled (pos total) point.scale)

-- a point, with its last reading as this
abbrev pub row_data : Seen → Data → Data
row_data seen last =
    object (member (codes "device") (string seen.point.device) (member (codes "last") last (member (codes "name") (string seen.point.name)
    (member (codes "role") (string (role_name seen.point.role)) (member (codes "total") (total_data seen.point seen.total) no_members)))))

-- the row of a point in slots of so many seconds follows a text
abbrev pub AddsRow : ℕ → Seen → List ℕ → List ℕ → Type 0
AddsRow seconds seen old new = (last : Data) × IsLast seconds seen.point seen.last last × (new ≡ old ++ compact_text (row_data seen last))
