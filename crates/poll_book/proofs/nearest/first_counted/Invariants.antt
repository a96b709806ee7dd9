use Rattle.std.proofs.Common.{◌≡◌, [], take}
use Rattle.poll_book.specs.Histories.{counted_in}
use Rattle.poll_book.proofs.nearest.first_counted.Given as goal

abbrev pub invariant-loop-row : goal.invariant-loop-row
invariant-loop-row l = counted_in l.point (take l.row-index l.slots) ≡ []
