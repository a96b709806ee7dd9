use Rattle.std.proofs.Common.{drop}
use Rattle.mb_map.specs.Schedule.{Simulated}
use Rattle.mb_map.proofs.Standing.{stands_rested}
use Rattle.mb_map.proofs.sim.Sim.rest.Goals as goal

pub returns-clause-rested : goal.returns-clause-rested
returns-clause-rested c = λ devices script calls answers stood.
    let before : Simulated = record { devices = c.self.inside.devices.items; script = drop c.self.inside.used c.self.inside.script.items; held = c.self.inside.held.items } in
    rw (c.give_all.ensures, c.in_ok-replies.ensures.items, c.as_slice.ensures.value, c.clear.ensures.items) (stands_rested devices script calls answers before (rw c.self.view_is stood))
