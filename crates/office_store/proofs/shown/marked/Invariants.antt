use Rattle.std.proofs.Common.{◌≡◌, map}
use Rattle.std.specs.BTreeSet.{contains}
use Rattle.std.specs.Ordering.{nat_cmp}
use Rattle.office_store.specs.Counting.{marked_by}
use Rattle.office_store.proofs.shown.marked.Given as goal

abbrev pub invariant-loop-reading : goal.invariant-loop-reading
invariant-loop-reading l = l.shown.items ≡ map (marked_by (contains nat_cmp l.voids)) l.yielded
