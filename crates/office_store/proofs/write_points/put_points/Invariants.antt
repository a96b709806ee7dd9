use Rattle.std.proofs.Common.{◌≡◌, ◌<◌, ◌++◌, IsTrue, take}
use Rattle.sqlite.specs.Effect.{Database}
use Rattle.sqlite.specs.Held.{state}
use Rattle.sqlite.specs.State.{HasCleanDisk, KeepsCommit, Survives}
use Rattle.poll_book.specs.Tables.{Tables}
use Rattle.poll_book.specs.Changes.{AreNumbered}
use Rattle.office_store.specs.Writing.{Within}
use Rattle.office_store.proofs.write_points.put_points.Given as goal

abbrev pub invariant-loop-row : goal.invariant-loop-row
invariant-loop-row g l =
    let start = state g.S.Store l.fn.tx.conn.now in
    let now = state g.S.Store l.tx.conn.now in
    record {
      same_reference : l.tx.conn.ghost_name ≡ l.fn.tx.conn.ghost_name;
      survives : Survives start now (λ _. ⊥);
      kept : HasCleanDisk now → KeepsCommit start now;
      inside : HasCleanDisk now → IsTrue start.in_transaction → IsTrue now.in_transaction;
      opened : HasCleanDisk now → IsTrue start.in_transaction → 0 < l.row-index → IsTrue start.is_open;
      put : HasCleanDisk now → (base : Database) (kept : Tables) → Within start base kept → AreNumbered 0 (kept.points ++ l.points) → Within now base (record kept { points = kept.points ++ take l.row-index l.points });
    }
