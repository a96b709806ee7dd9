use Rattle.std.proofs.Common.{◌≡◌, ◌+◌, ◌≤◌, drop, length, vec_len}
use Rattle.std.specs.Prelude.{vec_capacity}
use Rattle.poll_book.specs.Tables.{with_sums}
use Rattle.poll_book.specs.Changes.{as_sums}
use Rattle.poll_book.specs.Histories.{IsRising}
use Rattle.poll_book.specs.Marks.{total_point}
use Rattle.poll_book.proofs.totals.put_totals.Given as goal

abbrev pub invariant-loop-left : goal.invariant-loop-left
invariant-loop-left l = record {
  in_range : l.left ≤ length l.rows;
  rising : IsRising total_point l.totals.items;
  room : vec_len l.totals + l.left ≤ vec_capacity l.totals;
  put : as_sums l.totals.items ≡ with_sums (as_sums (drop l.left l.rows)) (as_sums l.fn.totals.items);
}

abbrev pub decreases-loop-left : goal.decreases-loop-left
decreases-loop-left l = l.left
