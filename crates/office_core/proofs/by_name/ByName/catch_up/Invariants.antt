use Rattle.std.proofs.Common.{◌-◌, ◌≤◌, length}
use Rattle.office_core.specs.ByName.{AreNamesOf}
use Rattle.office_core.proofs.by_name.ByName.catch_up.Given as goal

-- the points so far stand in it, and there are as many as are to stand in it
abbrev pub invariant-loop-self : goal.invariant-loop-self
invariant-loop-self l = AreNamesOf l.known l.self × (l.end ≤ length l.known)

abbrev pub decreases-loop-self : goal.decreases-loop-self
decreases-loop-self l = l.end - l.self.count
