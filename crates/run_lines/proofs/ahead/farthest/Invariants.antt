use Rattle.office_core.specs.Proceeding.{GoesAlong, Nothing}
use Rattle.run_lines.proofs.ahead.farthest.Given as goal

abbrev pub invariant-loop-place : goal.invariant-loop-place
invariant-loop-place g l = GoesAlong Nothing l.fn.office l.office
