use Rattle.std.proofs.Common.{◌≡◌, length}
use Rattle.office_run.specs.Beginnings.{AreEmpty}
use Rattle.office_run.proofs.running.places.Given as goal

abbrev pub invariant-loop-at : goal.invariant-loop-at
invariant-loop-at l = AreEmpty 0 l.places.items × (length l.places.items ≡ l.at)
