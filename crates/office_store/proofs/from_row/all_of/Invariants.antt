use Rattle.std.proofs.Common.{◌≡◌, Some, map, take}
use Rattle.office_store.proofs.from_row.all_of.Given as goal

abbrev pub invariant-loop-row : goal.invariant-loop-row
invariant-loop-row g l = map g.T.FromRow.shown (take l.row-index l.rows) ≡ map Some (map g.T.FromRow.as_entry l.values.items)
