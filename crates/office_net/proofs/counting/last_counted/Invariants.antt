use Rattle.std.proofs.Common.{◌<◌, ◌≤◌, ◌-◌}
use Rattle.office_core.specs.Offices.{Counts}
use Rattle.office_net.specs.Counting.{IsCountedBetween, Learnt}
use Rattle.office_net.proofs.counting.last_counted.Given as goal

-- it is counted behind the lower slot, and not behind the upper one, and no refusal of the keeper was forgotten
abbrev pub invariant-loop-high : goal.invariant-loop-high
invariant-loop-high g l =
    (l.fn.after ≤ l.low) × (l.low < l.high) × Learnt l.fn.office l.office (λ now. IsCountedBetween now l.number l.low l.high)
    × Counts l.fn.office l.office

abbrev pub decreases-loop-high : goal.decreases-loop-high
decreases-loop-high g l = l.high - l.low
