use Rattle.std.proofs.Common.{◌≡◌, ℕ, take}
use Rattle.std.specs.List.{list_any}
use Rattle.std.specs.Ordering.{nat_cmp}
use Rattle.std.specs.BTreeSet.{contains}
use Rattle.office_store.specs.Voids.{shows_slot}
use Rattle.office_store.proofs.voids.slots_shown.Given as goal

abbrev pub invariant-loop-row : goal.invariant-loop-row
invariant-loop-row l = record {
  shown : (slot : ℕ) → contains nat_cmp l.slots slot ≡ list_any (shows_slot slot) (take l.row-index l.rows);
}
