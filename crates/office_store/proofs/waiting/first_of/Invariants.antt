use Rattle.std.proofs.Common.{◌≡◌, None, false, find, map, take, ℕ}
use Rattle.sqlite.specs.Held.{state}
use Rattle.sqlite.specs.State.{HasCleanDisk}
use Rattle.poll_book.specs.Tables.{Tables}
use Rattle.poll_book.specs.declared.rows.Setting.{Setting}
use Rattle.poll_book.specs.Orders.{is_of, point_at}
use Rattle.office_store.specs.Kept.{Holds}
use Rattle.office_store.specs.Waiting.{AreKnown, AreOfTheirDevices, OnlyLookedUp, entry_of}
use Rattle.office_store.proofs.waiting.first_of.Given as goal

abbrev pub invariant-loop-waiting : goal.invariant-loop-waiting
invariant-loop-waiting g l =
    let start = state g.S.Store l.fn.connection in
    let now = state g.S.Store l.connection in
    record {
      idle : l.connection.in_transaction ≡ false;
      looked : OnlyLookedUp start now l.fn.orders l.orders;
      none : HasCleanDisk now → (kept : Tables) → Holds start kept → AreOfTheirDevices kept.points l.fn.orders
          → find (λ (row : ℕ × Setting). is_of l.device (point_at kept.points row.1.point)) (take l.waiting-index (map entry_of l.fn.orders)) ≡ None;
      once : AreKnown l.fn.orders → (l.connection ≡ l.fn.connection) × (l.orders ≡ l.fn.orders);
    }
