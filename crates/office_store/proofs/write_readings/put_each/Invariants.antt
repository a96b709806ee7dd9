use Rattle.std.proofs.Common.{◌≡◌, ◌<◌, ◌≤◌, IsTrue, drop, length}
use Rattle.sqlite.specs.Effect.{Database}
use Rattle.sqlite.specs.Held.{state}
use Rattle.sqlite.specs.State.{HasCleanDisk, KeepsCommit, Survives}
use Rattle.poll_book.specs.Tables.{Tables, with_rows}
use Rattle.poll_book.specs.Changes.{KeepWords, as_rows}
use Rattle.office_store.specs.Writing.{Within}
use Rattle.office_store.proofs.write_readings.put_each.Given as goal

abbrev pub invariant-loop-left : goal.invariant-loop-left
invariant-loop-left g l =
    let start = state g.S.Store l.fn.tx.conn.now in
    let now = state g.S.Store l.tx.conn.now in
    record {
      same_reference : l.tx.conn.ghost_name ≡ l.fn.tx.conn.ghost_name;
      survives : Survives start now (λ _. ⊥);
      kept : HasCleanDisk now → KeepsCommit start now;
      inside : HasCleanDisk now → IsTrue start.in_transaction → IsTrue now.in_transaction;
      opened : HasCleanDisk now → IsTrue start.in_transaction → l.left < length l.rows → IsTrue start.is_open;
      in_range : l.left ≤ length l.rows;
      put : HasCleanDisk now → (base : Database) (kept : Tables) → Within start base kept → KeepWords kept.readings (as_rows l.rows) → Within now base (record kept { readings = with_rows (as_rows (drop l.left l.rows)) kept.readings });
    }

abbrev pub decreases-loop-left : goal.decreases-loop-left
decreases-loop-left g l = l.left
