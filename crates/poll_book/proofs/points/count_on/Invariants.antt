use Rattle.std.proofs.Common.{length, ◌-◌}
use Rattle.poll_book.specs.Marks.{AreCounted}
use Rattle.poll_book.proofs.points.count_on.Given as goal

abbrev pub invariant-loop-count : goal.invariant-loop-count
invariant-loop-count l = AreCounted l.points l.count

abbrev pub decreases-loop-count : goal.decreases-loop-count
decreases-loop-count l = length l.points - l.count
