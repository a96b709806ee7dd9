use Rattle.std.proofs.Common.{◌≡◌, ◌++◌, take}
use Rattle.std.specs.Prelude.{flat_map}
use Rattle.office_script.specs.Printing.{reading_line, readings_in}
use Rattle.office_script.proofs.report.push_rows.Given as goal

abbrev pub invariant-loop-row : goal.invariant-loop-row
invariant-loop-row l = l.out.items ≡ l.fn.out.items ++ flat_map (reading_line l.fn.known) (readings_in (take l.row-index l.rows))
