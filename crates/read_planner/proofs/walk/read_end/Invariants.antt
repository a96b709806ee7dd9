use Rattle.std.proofs.Common.{take}
use Rattle.read_planner.proofs.Reaching.{IsSeen}
use Rattle.read_planner.proofs.walk.read_end.Given as goal

abbrev pub invariant-loop-place : goal.invariant-loop-place
invariant-loop-place l = IsSeen l.first (take l.place-index l.places) l.gap l.reach l.end
