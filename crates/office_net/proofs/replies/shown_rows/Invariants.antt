use Rattle.std.proofs.Common.{◌≡◌, map, take}
use Rattle.office_core.specs.Fitting.{AreOf, HasForm}
use Rattle.poll_book.specs.Showing.{as_shown}
use Rattle.office_http.specs.Shown.{shown}
use Rattle.office_net.specs.Replies.{shown_row}
use Rattle.office_report.specs.Reports.{rows_of}
use Rattle.office_net.proofs.replies.shown_rows.Given as goal

abbrev pub invariant-loop-row : goal.invariant-loop-row
invariant-loop-row l = HasForm l.fn.point → AreOf l.fn.point (rows_of (map as_shown l.rows))
    → map shown l.shown.items ≡ map (shown_row l.fn.point) (rows_of (map as_shown (take l.row-index l.rows)))
