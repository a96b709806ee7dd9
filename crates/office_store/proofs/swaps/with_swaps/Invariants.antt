use Rattle.std.proofs.Common.{◌≡◌, ◌≤◌, All, length, map, take}
use Rattle.office_store.specs.Swaps.{CanHaveOrder, as_swap, plain, swaps_of}
use Rattle.office_store.proofs.swaps.with_swaps.Given as goal

abbrev pub invariant-loop-row : goal.invariant-loop-row
invariant-loop-row l = record {
  few : l.next ≤ length l.swaps;
  points : map plain l.known.items ≡ map plain (take l.row-index l.points);
  swaps : swaps_of l.known.items ≡ map as_swap (take l.next l.swaps);
  listed : All CanHaveOrder l.known.items;
}
