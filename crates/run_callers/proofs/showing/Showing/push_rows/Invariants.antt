use Rattle.office_core.specs.Proceeding.{GoesAlong, Nothing}
use Rattle.run_callers.proofs.showing.Showing.push_rows.Given as goal

abbrev pub invariant-loop-at : goal.invariant-loop-at
invariant-loop-at g l = GoesAlong Nothing l.fn.office l.office
