use Rattle.std.proofs.Common.{◌≡◌, ◌≤◌, ◌<◌, ◌+◌, ℕ, true, length, take, get_or}
use Rattle.point_list.specs.declared.point.Point.{Point}
use Rattle.office_core.specs.Loads as loads
use Rattle.office_core.proofs.loads.new_points.Given as goal

-- the new ones so far, numbered on, and all so far agree with what is known
abbrev pub invariant-loop-point : goal.invariant-loop-point
invariant-loop-point l = record {
  rows : l.rows.items ≡ loads.numbered_on (length l.known) (loads.unknown_of l.known (take l.point-index l.points));
  few : length l.rows.items ≤ l.point-index;
  row : l.row ≡ l.point-index + 2;
  short : l.point-index ≤ length l.points;
  agree : (k : ℕ) (d : Point) → k < l.point-index → loads.agrees (get_or l.points k d) (loads.known_named l.known (get_or l.points k d).name) ≡ true;
}
