use Rattle.std.proofs.Common.{length, ◌-◌}
use Rattle.poll_book.specs.Marks.{AreSettled}
use Rattle.poll_book.proofs.marks.settled_on.Given as goal

abbrev pub invariant-loop-count : goal.invariant-loop-count
invariant-loop-count l = AreSettled l.orders l.count

abbrev pub decreases-loop-count : goal.decreases-loop-count
decreases-loop-count l = length l.orders - l.count
