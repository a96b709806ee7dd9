use Rattle.std.proofs.Common.{length}
use Rattle.read_planner.proofs.Walking.{IsWalked}
use Rattle.read_planner.proofs.walk.reads_of.Given as goal

abbrev pub invariant-loop-first : goal.invariant-loop-first
invariant-loop-first l = IsWalked l.places l.gap l.reads.items l.rest

abbrev pub decreases-loop-first : goal.decreases-loop-first
decreases-loop-first l = length l.rest
