use Rattle.std.proofs.Common.{◌≡◌, vec_len}
use Rattle.poll_book.specs.Tables.{with_rows}
use Rattle.poll_book.specs.Changes.{as_rows}
use Rattle.poll_book.specs.Histories.{readings_of, AreOrdered, HaveHistories, HaveRoom}
use Rattle.poll_book.proofs.histories.put_all.Given as goal

abbrev pub invariant-loop-row : goal.invariant-loop-row
invariant-loop-row l = record {
  ordered : AreOrdered l.histories.items;
  made : HaveHistories l.histories.items l.rows.items;
  room : HaveRoom l.histories.items l.rows.items;
  put : with_rows (as_rows l.rows.items) (readings_of l.histories.items) ≡ with_rows (as_rows l.fn.rows.items) (readings_of l.fn.histories.items);
}

abbrev pub decreases-loop-row : goal.decreases-loop-row
decreases-loop-row l = vec_len l.rows
