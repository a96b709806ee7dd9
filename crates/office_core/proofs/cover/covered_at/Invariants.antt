use Rattle.std.proofs.Common.{◌≡◌, take}
use Rattle.office_core.specs.ByDevice.{points_at}
use Rattle.office_core.specs.Cover as cover
use Rattle.office_core.proofs.cover.covered_at.Given as goal

-- what the reply gives to the points at the places so far
abbrev pub invariant-loop-place : goal.invariant-loop-place
invariant-loop-place l = l.rows.items ≡ cover.given_of (points_at l.known (take l.place-index l.places)) l.device l.read (cover.reply_cells l.reply)
