use Rattle.std.proofs.Common.{◌≡◌, ◌<◌, ◌≤◌, IsTrue, drop, length}
use Rattle.sqlite.specs.Effect.{Database}
use Rattle.sqlite.specs.Held.{state}
use Rattle.sqlite.specs.State.{HasCleanDisk, KeepsCommit, Survives}
use Rattle.poll_book.specs.Tables.{Tables, with_sums}
use Rattle.poll_book.specs.Changes.{AreThere, as_sums}
use Rattle.office_store.specs.Writing.{Within}
use Rattle.office_store.proofs.write_totals.set_totals.Given as goal

abbrev pub invariant-loop-left : goal.invariant-loop-left
invariant-loop-left g l =
    let start = state g.S.Store l.fn.tx.conn.now in
    let now = state g.S.Store l.tx.conn.now in
    record {
      same_reference : l.tx.conn.ghost_name ≡ l.fn.tx.conn.ghost_name;
      survives : Survives start now (λ _. ⊥);
      kept : HasCleanDisk now → KeepsCommit start now;
      inside : HasCleanDisk now → IsTrue start.in_transaction → IsTrue now.in_transaction;
      opened : HasCleanDisk now → IsTrue start.in_transaction → l.left < length l.rows → IsTrue start.is_open;
      in_range : l.left ≤ length l.rows;
      put : HasCleanDisk now → (base : Database) (kept : Tables) → Within start base kept → AreThere kept.totals (as_sums l.rows) → Within now base (record kept { totals = with_sums (as_sums (drop l.left l.rows)) kept.totals });
    }

abbrev pub decreases-loop-left : goal.decreases-loop-left
decreases-loop-left g l = l.left
