use Rattle.std.proofs.Common.{◌<◌, [], All, arith}
use Rattle.mb_map.specs.declared.held.Held.{Held}
use Rattle.mb_map.proofs.Differ.{own_ids, sound_all}
use Rattle.mb_map.proofs.Standing.{stands_begun}
use Rattle.mb_map.proofs.sim.Sim.new.Goals as goal

pub invariant_of-result : goal.invariant_of-result
invariant_of-result c =
    let none : All (λ (h : Held). 0 < h.left) [] = λ k d lt. absurd (omega arith) in
    (own_ids c.args.devices.items c.requires.devices, sound_all c.args.script.items c.requires.script, rw c.new.ensures.items none, omega arith)

pub returns-clause-stands : goal.returns-clause-stands
returns-clause-stands c = rw c.new.ensures.items (stands_begun c.args.devices.items c.args.script.items)
