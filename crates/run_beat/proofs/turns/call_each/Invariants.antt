use Rattle.std.proofs.Common.{◌≡◌, Bool, List}
use Rattle.run_beat.specs.Turns.{any_more}
use Rattle.run_beat.proofs.Steps.{HaveStepped}
use Rattle.run_beat.proofs.turns.call_each.Given as goal

abbrev pub invariant-loop-member : goal.invariant-loop-member
invariant-loop-member g l =
    (mores : List Bool) × HaveStepped g.M.Called.steps l.member-index l.initial.members l.initial.world mores l.members l.world × (l.is_more ≡ any_more mores)
