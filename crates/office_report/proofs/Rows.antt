-- Rows of a report, one by one.
use Rattle.std.proofs.Common.{◌<◌, ℕ, zero, suc, List, [], ◌∷◌, length, get_or, map, arith}
use Rattle.sunspec.specs.Value.{AreRegistersOf}
use Rattle.point_list.specs.declared.point.Point.{Point}
use Rattle.poll_book.specs.Changes.{as_row}
use Rattle.poll_book.specs.declared.shown.ShownReading.{ShownReading}
use Rattle.office_core.specs.Fitting.{AreOf}
use Rattle.poll_book.specs.Showing.{as_shown}
use Rattle.office_report.specs.Reports.{rows_of}

-- the registers of one of a point's readings
pub registers_at : (point : Point) (rows : List ShownReading) (i : ℕ) (d : ShownReading) → i < length rows → AreOf point (rows_of (map as_shown rows)) → AreRegistersOf point.kind (get_or rows i d).reading.words
registers_at point [] i d lt are = absurd (omega arith)
registers_at point (row ∷ rows) zero d lt are = are 0 (as_row d.reading) (omega arith)
registers_at point (row ∷ rows) (suc i) d lt are = registers_at point rows i d (omega arith) (λ k e less. are (suc k) e (omega (arith, less)))
