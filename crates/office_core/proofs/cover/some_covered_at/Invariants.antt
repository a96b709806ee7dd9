use Rattle.std.proofs.Common.{◌≡◌, false, take}
use Rattle.office_core.specs.ByDevice.{points_at}
use Rattle.office_core.specs.Cover as cover
use Rattle.office_core.proofs.cover.some_covered_at.Given as goal

-- none at the places so far is covered
abbrev pub invariant-loop-place : goal.invariant-loop-place
invariant-loop-place l = cover.some_covered (points_at l.known (take l.place-index l.places)) l.device l.read ≡ false
