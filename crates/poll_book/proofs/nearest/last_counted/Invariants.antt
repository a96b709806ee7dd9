use Rattle.std.proofs.Common.{◌≡◌, ◌≤◌, [], drop, length}
use Rattle.poll_book.specs.Histories.{counted_in}
use Rattle.poll_book.proofs.nearest.last_counted.Given as goal

abbrev pub invariant-loop-place : goal.invariant-loop-place
invariant-loop-place l = record { in_range : l.place ≤ length l.slots; none : counted_in l.point (drop l.place l.slots) ≡ [] }

abbrev pub decreases-loop-place : goal.decreases-loop-place
decreases-loop-place l = l.place
