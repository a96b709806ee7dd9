use Rattle.std.proofs.Common.{◌≡◌, ◌⊎◌, ◌++◌, IsTrue, List, []}
use Rattle.std.specs.Slice.Iter.{rchunks_rest, rchunks_size}
use Rattle.sqlite.specs.Effect.{Database}
use Rattle.sqlite.specs.Held.{state}
use Rattle.sqlite.specs.State.{HasCleanDisk, KeepsCommit, Survives}
use Rattle.poll_book.specs.declared.rows.ReadingRow.{ReadingRow}
use Rattle.poll_book.specs.Tables.{Tables, with_rows}
use Rattle.poll_book.specs.Changes.{KeepWords, as_rows}
use Rattle.office_store.specs.Writing.{Within}
use Rattle.office_store.proofs.write_readings.put_readings.Given as goal

abbrev pub invariant-loop-few : goal.invariant-loop-few
invariant-loop-few g l =
    let start = state g.S.Store l.fn.tx.conn.now in
    let now = state g.S.Store l.tx.conn.now in
    record {
      same_reference : l.tx.conn.ghost_name ≡ l.fn.tx.conn.ghost_name;
      survives : Survives start now (λ _. ⊥);
      kept : HasCleanDisk now → KeepsCommit start now;
      inside : HasCleanDisk now → IsTrue start.in_transaction → IsTrue now.in_transaction;
      size : rchunks_size l.few-iterator ≡ 5;
      done : List ReadingRow;
      split : l.rows ≡ rchunks_rest l.few-iterator ++ done;
      opened : HasCleanDisk now → IsTrue start.in_transaction → (done ≡ []) ⊎ IsTrue start.is_open;
      put : HasCleanDisk now → (base : Database) (kept : Tables) → Within start base kept → KeepWords kept.readings (as_rows l.rows) → Within now base (record kept { readings = with_rows (as_rows done) kept.readings });
    }
