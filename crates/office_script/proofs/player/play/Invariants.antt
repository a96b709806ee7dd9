use Rattle.std.proofs.Common.{◌≡◌, ◌≤◌, ◌+◌, ◌++◌, length, List, ℕ}
use Rattle.std.specs.Io.KnownBytes.{Appends}
use Rattle.mb_mbap.specs.Counted.{inner_of, failures_of}
use Rattle.office_core.specs.History.{History}
use Rattle.office_script.specs.Scripts.{steps_of, from_line}
use Rattle.office_script.specs.Playing.{Follows, Owes}
use Rattle.office_script.proofs.player.play.Given as goal

abbrev pub invariant-loop-rest : goal.invariant-loop-rest
invariant-loop-rest g l = record {
  owed : (before : History) → Follows l.fn.start before → (done : List ℕ) × Appends (g.W.Write.contents (inner_of l.fn.writer)) (g.W.Write.contents (inner_of l.writer)) done
      × Owes (Follows l.office) (done ++ l.out.items) l.number (steps_of l.number l.rest) (from_line before l.fn.first (steps_of l.fn.first l.fn.text));
  failures : failures_of l.writer ≡ failures_of l.fn.writer;
  room : l.number + length l.rest ≤ l.fn.first + length l.fn.text;
}

abbrev pub decreases-loop-rest : goal.decreases-loop-rest
decreases-loop-rest g l = length l.rest
