use Rattle.std.proofs.Common.{◌≡◌, ◌<◌, ◌≤◌, take}
use Rattle.std.specs.Prelude.{All}
use Rattle.poll_book.specs.Histories.{readings_of, AreOrdered, HaveHistories, HaveRoom}
use Rattle.poll_book.proofs.histories.staged.Given as goal

abbrev pub invariant-loop-row : goal.invariant-loop-row
invariant-loop-row l = record {
  ordered : AreOrdered l.histories.items;
  same : readings_of l.histories.items ≡ readings_of l.fn.histories.items;
  made : HaveHistories l.histories.items l.added;
  copied : l.rows.items ≡ take l.row-index l.added;
  bounded : All (λ row. row.point < l.bound) l.rows.items;
  small : l.bound ≤ 4294967296;
  room : HaveRoom l.histories.items l.rows.items;
}
