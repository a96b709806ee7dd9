use Rattle.std.proofs.Common.{◌≡◌, ◌≤◌, length, take}
use Rattle.office_core.specs.Cover as cover
use Rattle.office_core.proofs.cover.covered.Given as goal

-- what the reply gives to the points so far
abbrev pub invariant-loop-point : goal.invariant-loop-point
invariant-loop-point l = (l.rows.items ≡ cover.given_of (take l.point-index l.known) l.device l.read (cover.reply_cells l.reply)) × (length l.rows.items ≤ l.point-index)
