use Rattle.std.proofs.Common.{◌≡◌, ◌≤◌, ◌-◌, None}
use Rattle.mb_mbap.specs.Counted.{ends_of, failures_of, inner_of}
use Rattle.office_core.specs.Offices.{keeper_of}
use Rattle.office_net.specs.Rounds.{Handles, Underway}
use Rattle.office_net.specs.Stages.{IsDone, IsWaiting}
use Rattle.office_net.proofs.polling.poll_jobs.Given as goal

abbrev pub invariant-pieces : goal.invariant-pieces
invariant-pieces g l = record {
  way : Underway (λ came. g.K.Neighbours.is_clean (keeper_of l.office) → Handles l.fn.office l.fn.poll l.office l.poll came (g.W.Write.contents (inner_of l.fn.writer)) (g.W.Write.contents (inner_of l.writer)))
      l.poll l.stream l.read (g.R.Read.remaining (inner_of l.fn.reader)) (g.R.Read.remaining (inner_of l.reader));
  counted : g.K.Neighbours.refused (keeper_of l.fn.office) ≤ g.K.Neighbours.refused (keeper_of l.office);
  clean : g.K.Neighbours.is_clean (keeper_of l.office) → g.K.Neighbours.is_clean (keeper_of l.fn.office);
  limit : l.read ≤ 16777216;
  sound : l.stream ≡ None → IsDone l.poll;
  waits : IsWaiting l.poll;
  calm : failures_of l.writer ≡ failures_of l.fn.writer;
  reader : (failures_of l.reader ≡ failures_of l.fn.reader) × (ends_of l.reader ≡ ends_of l.fn.reader);
}

abbrev pub decreases-pieces : goal.decreases-pieces
decreases-pieces g l = 16777216 - l.read
