use Rattle.std.proofs.Common.{◌≡◌, false}
use Rattle.std.specs.Prelude.{take}
use Rattle.poll_book.specs.Tables.{Tables, Within}
use Rattle.office_core.specs.ByDevice.{points_at}
use Rattle.office_core.specs.Lacking.{some_lacks}
use Rattle.office_core.proofs.lacking.one_lacks_at.Given as goal

abbrev pub invariant-loop-place : goal.invariant-loop-place
invariant-loop-place g l = record {
  counted : g.K.Neighbours.refused l.keeper ≡ g.K.Neighbours.refused l.fn.keeper;
  same : Within (g.K.Neighbours.holds l.fn.keeper) (g.K.Neighbours.holds l.keeper);
  leaves : g.K.Neighbours.is_clean l.keeper → Within (g.K.Neighbours.may_leave l.keeper) (g.K.Neighbours.may_leave l.fn.keeper);
  clean : g.K.Neighbours.is_clean l.keeper → g.K.Neighbours.is_clean l.fn.keeper;
  value : g.K.Neighbours.is_clean l.keeper → (kept : Tables) → g.K.Neighbours.holds l.fn.keeper kept
      → some_lacks (points_at l.known (take l.place-index l.places)) kept.readings l.device l.slot l.read ≡ false;
}
