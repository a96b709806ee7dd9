use Rattle.std.specs.Prelude.{string_bytes}
use Rattle.office_pages.specs.Pieces.{Grows}
use Rattle.office_pages.proofs.line_metrics.push_last_rounds.Given as goal

abbrev pub invariant-loop-line : goal.invariant-loop-line
invariant-loop-line l = Grows (string_bytes l.fn.out) (string_bytes l.out)
