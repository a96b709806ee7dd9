use Rattle.std.proofs.Common.{◌≡◌, ◌+◌, ◌≤◌, take, [], ℕ, length, vec_len}
use Rattle.std.specs.Prelude.{vec_capacity}
use Rattle.poll_book.specs.Tables.{with_sums}
use Rattle.poll_book.specs.Totals.{totals_of}
use Rattle.poll_book.specs.Changes.{as_sums}
use Rattle.poll_book.specs.Histories.{IsRising}
use Rattle.poll_book.specs.Marks.{total_point}
use Rattle.poll_book.proofs.totals.begin_upwards.Given as goal

abbrev pub invariant-loop-point : goal.invariant-loop-point
invariant-loop-point l = record {
  rising : IsRising total_point l.totals.items;
  room : (more : ℕ) → vec_len l.fn.totals + length l.points + more ≤ vec_capacity l.fn.totals → vec_len l.totals + length l.points + more ≤ vec_capacity l.totals + l.point-index;
  put : as_sums l.totals.items ≡ with_sums (totals_of (take l.point-index l.points) []) (as_sums l.fn.totals.items);
}
