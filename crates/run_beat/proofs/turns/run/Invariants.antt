use Rattle.run_beat.specs.Turns.{Turns}
use Rattle.run_beat.proofs.turns.run.Given as goal

abbrev pub invariant-loop : goal.invariant-loop
invariant-loop g l =
    Turns g.L.Called.steps g.C.Called.steps g.W.World.waits l.counter l.initial.lines l.initial.callers l.initial.world l.lines l.callers l.world
