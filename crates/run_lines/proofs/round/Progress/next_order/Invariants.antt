use Rattle.office_core.specs.Proceeding.{GoesAlong, Nothing}
use Rattle.run_lines.proofs.round.Progress.next_order.Given as goal

abbrev pub invariant-loop-device : goal.invariant-loop-device
invariant-loop-device g l = GoesAlong Nothing l.fn.office l.office
