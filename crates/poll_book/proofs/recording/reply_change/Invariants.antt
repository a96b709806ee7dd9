use Rattle.std.proofs.Common.{◌≡◌, ◌≤◌, ◌*◌, take, vec_len}
use Rattle.poll_book.specs.Tables.{AreByKey, Tables, Within, marked, new_rows}
use Rattle.poll_book.specs.Changes.{HaveTotals, as_rows, as_sums, keyed, new_sums}
use Rattle.poll_book.specs.Looks.{IsRaisedAtMost}
use Rattle.poll_book.proofs.recording.reply_change.Given as goal

abbrev pub invariant-loop-entry : goal.invariant-loop-entry
invariant-loop-entry g l = record {
  readings : g.N.Neighbours.is_clean l.keeper → (kept : Tables) → g.N.Neighbours.holds l.fn.keeper kept
      → as_rows l.readings.items ≡ new_rows kept.readings (marked kept.voids (keyed l.slot (take l.entry-index l.covered)));
  totals : g.N.Neighbours.is_clean l.keeper → (kept : Tables) → g.N.Neighbours.holds l.fn.keeper kept → AreByKey kept.readings → HaveTotals kept l.covered
      → as_sums l.totals.items ≡ new_sums kept.voids kept.readings l.slot (take l.entry-index l.covered);
  few : vec_len l.readings ≤ l.entry-index;
  looks : IsRaisedAtMost (5 * l.entry-index) (g.N.Neighbours.looked l.fn.keeper) (g.N.Neighbours.looked l.keeper);
  same : Within (g.N.Neighbours.holds l.fn.keeper) (g.N.Neighbours.holds l.keeper);
  counted : g.N.Neighbours.refused l.keeper ≡ g.N.Neighbours.refused l.fn.keeper;
  clean : g.N.Neighbours.is_clean l.keeper → g.N.Neighbours.is_clean l.fn.keeper;
  crash : g.N.Neighbours.is_clean l.keeper → Within (g.N.Neighbours.may_leave l.keeper) (g.N.Neighbours.may_leave l.fn.keeper);
}
