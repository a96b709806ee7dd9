use Rattle.std.proofs.Common.{◌≡◌, ◌+◌, ◌≤◌, drop, [], ℕ, length, vec_len}
use Rattle.std.specs.Prelude.{vec_capacity}
use Rattle.poll_book.specs.Tables.{with_sums}
use Rattle.poll_book.specs.Totals.{totals_of}
use Rattle.poll_book.specs.Changes.{as_sums}
use Rattle.poll_book.specs.Histories.{IsRising}
use Rattle.poll_book.specs.Marks.{total_point}
use Rattle.poll_book.proofs.totals.begin_downwards.Given as goal

abbrev pub invariant-loop-left : goal.invariant-loop-left
invariant-loop-left l = record {
  in_range : l.left ≤ length l.points;
  rising : IsRising total_point l.totals.items;
  room : (more : ℕ) → vec_len l.fn.totals + length l.points + more ≤ vec_capacity l.fn.totals → vec_len l.totals + l.left + more ≤ vec_capacity l.totals;
  put : as_sums l.totals.items ≡ with_sums (totals_of (drop l.left l.points) []) (as_sums l.fn.totals.items);
}

abbrev pub decreases-loop-left : goal.decreases-loop-left
decreases-loop-left l = l.left
