use Rattle.std.proofs.Common.{◌≡◌, ◌≤◌, ◌+◌, take}
use Rattle.mb_mbap.specs.Counted.{failures_of, inner_of}
use Rattle.office_core.specs.Offices.{keeper_of}
use Rattle.office_net.specs.Rounds.{Handles}
use Rattle.office_net.specs.Stages.{IsWaiting, taken_of}
use Rattle.office_net.proofs.polling.take_frames.Given as goal

abbrev pub invariant-loop-frame : goal.invariant-loop-frame
invariant-loop-frame g l = record {
  goes : g.K.Neighbours.is_clean (keeper_of l.office)
      → Handles l.fn.office l.fn.poll l.office l.poll (take l.frame-index l.frames) (g.W.Write.contents (inner_of l.fn.writer)) (g.W.Write.contents (inner_of l.writer));
  counted : g.K.Neighbours.refused (keeper_of l.fn.office) ≤ g.K.Neighbours.refused (keeper_of l.office);
  clean : g.K.Neighbours.is_clean (keeper_of l.office) → g.K.Neighbours.is_clean (keeper_of l.fn.office);
  waits : IsWaiting l.poll;
  calm : failures_of l.writer ≡ failures_of l.fn.writer;
  taken : taken_of l.poll ≡ taken_of l.fn.poll + l.frame-index;
}
