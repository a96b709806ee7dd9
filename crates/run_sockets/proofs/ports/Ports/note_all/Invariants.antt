use Rattle.std.proofs.Common.{◌≡◌}
use Rattle.std.specs.Prelude.{IsTrue}
use Rattle.run_sockets.specs.Ports.{places_in}
use Rattle.run_sockets.proofs.ports.Ports.note_all.Given as goal

abbrev pub invariant-loop-event : goal.invariant-loop-event
invariant-loop-event l =
    (places_in l.self ≡ places_in l.initial.self) × (IsTrue l.initial.self.is_stopped → IsTrue l.self.is_stopped)
