use Rattle.std.proofs.Common.{◌≡◌, ◌++◌, take}
use Rattle.std.specs.Prelude.{flat_map, map, string_bytes}
use Rattle.office_core.specs.Fitting.{AreOf, HasForm}
use Rattle.poll_book.specs.Showing.{as_shown}
use Rattle.office_report.specs.Reports.{reading_line, rows_of}
use Rattle.office_report.proofs.report.push_readings.Given as goal

abbrev pub invariant-loop-row : goal.invariant-loop-row
invariant-loop-row l = HasForm l.fn.point → AreOf l.fn.point (rows_of (map as_shown l.rows))
    → string_bytes l.report ≡ string_bytes l.fn.report ++ flat_map (reading_line l.fn.point) (map as_shown (take l.row-index l.rows))
