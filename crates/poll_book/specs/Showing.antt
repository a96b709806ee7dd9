-- Readings with whether their slots are voided.
use Rattle.std.specs.Prelude.{Bool, List, map}
use Rattle.poll_book.specs.declared.rows.Reading.{Reading}
use Rattle.poll_book.specs.declared.shown.ShownReading.{ShownReading}
use Rattle.poll_book.specs.Changes.{as_row}
use Rattle.poll_book.specs.Tables.{Key, Readings, Voids, is_void}

-- a reading with its key, and whether its slot is voided
abbrev pub Shown : Type 0
Shown = (Key × Reading) × Bool

abbrev pub as_shown : ShownReading → Shown
as_shown shown = (as_row shown.reading, shown.voided)

abbrev pub with_mark : Voids → Key × Reading → Shown
with_mark voids row = (row, is_void voids row.0)

abbrev pub with_marks : Voids → Readings → List Shown
with_marks voids rows = map (with_mark voids) rows
