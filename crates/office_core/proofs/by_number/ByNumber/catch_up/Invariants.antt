use Rattle.std.proofs.Common.{◌-◌, length}
use Rattle.office_core.specs.ByNumber.{AreNumbersOf}
use Rattle.office_core.proofs.by_number.ByNumber.catch_up.Given as goal

-- the points so far were looked at
abbrev pub invariant-loop-self : goal.invariant-loop-self
invariant-loop-self l = AreNumbersOf l.known l.self

abbrev pub decreases-loop-self : goal.decreases-loop-self
decreases-loop-self l = length l.known - l.self.count
