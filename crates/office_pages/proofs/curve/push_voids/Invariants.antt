use Rattle.std.specs.Prelude.{string_bytes}
use Rattle.office_pages.specs.Pieces.{Grows}
use Rattle.office_pages.proofs.curve.push_voids.Given as goal

abbrev pub invariant-loop-row : goal.invariant-loop-row
invariant-loop-row l = Grows (string_bytes l.fn.out) (string_bytes l.out)
