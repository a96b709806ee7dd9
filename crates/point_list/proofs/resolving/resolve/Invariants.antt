use Rattle.std.proofs.Common.{◌≡◌, drop, take, map}
use Rattle.point_list.specs.Resolving.{first_misplaced, point_placed}
use Rattle.point_list.proofs.resolving.resolve.Given as goal

abbrev pub invariant-loop-row : goal.invariant-loop-row
invariant-loop-row l = record {
  misplaced : first_misplaced l.site l.fn.rows.items ≡ first_misplaced l.site (drop l.row-index l.fn.rows.items);
  placed : l.points.items ≡ map (point_placed l.site) (take l.row-index l.fn.rows.items);
}
