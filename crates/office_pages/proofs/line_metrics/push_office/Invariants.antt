use Rattle.std.specs.Prelude.{string_bytes}
use Rattle.office_pages.specs.Pieces.{Grows}
use Rattle.office_pages.proofs.line_metrics.push_office.Given as goal

abbrev pub invariant-loop-count : goal.invariant-loop-count
invariant-loop-count l = Grows (string_bytes l.fn.out) (string_bytes l.out)
