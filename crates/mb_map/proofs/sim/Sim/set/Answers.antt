use Rattle.std.proofs.Common.{◌≡◌, length, drop, rules}
use Rattle.std.proofs.lemmas.List.{with_items_is}
use Rattle.std.specs.Bool.{OnTrue}
use Rattle.mb_map.specs.Schedule.{Devices, Simulated, with_set}
use Rattle.mb_map.proofs.Serving.{on_true_more}
use Rattle.mb_map.proofs.Standing.{stands_set}
use Rattle.mb_map.proofs.sim.Sim.set.Goals as goal

pub invariant_of-self : goal.invariant_of-self
invariant_of-self c =
    let size : length c.set_number.new.devices ≡ c.self.inside.devices.len = search rules in
    let back = with_items_is c.self.inside.devices c.set_number.new.devices size in
    (rw back c.set_number.ensures.apart, c.self.invariant.1, c.self.invariant.2, c.self.invariant.3)

pub returns-clause-continues : goal.returns-clause-continues
returns-clause-continues c =
    let before : Simulated = record { devices = c.self.inside.devices.items; script = drop c.self.inside.used c.self.inside.script.items; held = c.self.inside.held.items } in
    let set : Devices → Devices = with_set c.args.unit_id c.args.table c.args.address c.args.number in
    let size : length c.set_number.new.devices ≡ c.self.inside.devices.len = search rules in
    let back = with_items_is c.self.inside.devices c.set_number.new.devices size in
    let done : OnTrue c.set_number.result (c.set_number.new.devices ≡ set before.devices) = rw c.as_mut_slice.ensures.value at c.set_number.ensures.done in
    on_true_more c.set_number.result (c.set_number.new.devices ≡ set before.devices) _
    (λ e. λ devices script calls answers stood. rw (back, e) (
    stands_set devices script calls answers before c.args.unit_id c.args.table c.args.address c.args.number (rw c.self.view_is stood)))
    done
