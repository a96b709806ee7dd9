use Rattle.poll_book.specs.Marks.{IsPast}
use Rattle.poll_book.proofs.marks.next_waiting.Given as goal

abbrev pub invariant-loop-place : goal.invariant-loop-place
invariant-loop-place l = IsPast l.points l.orders l.device l.place
