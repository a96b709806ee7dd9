use Rattle.std.proofs.Common.{◌≡◌, ℕ, ◌<◌, get_or, map}
use Rattle.std.specs.Prelude.{Contains}
use Rattle.poll_book.specs.declared.rows.ReadingRow.{ReadingRow}
use Rattle.poll_book.specs.Histories.{readings_of, AreOrdered, point_of}
use Rattle.poll_book.proofs.histories.make_histories.Given as goal

abbrev pub invariant-loop-row : goal.invariant-loop-row
invariant-loop-row l = record {
  ordered : AreOrdered l.histories.items;
  same : readings_of l.histories.items ≡ readings_of l.fn.histories.items;
  made : (k : ℕ) (d : ReadingRow) → k < l.row-index → Contains (map point_of l.histories.items) (get_or l.added k d).point;
}
