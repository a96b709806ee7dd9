use Rattle.std.proofs.Common.{◌≡◌, ◌≢◌, ◌∙◌, ◌+◌, ℕ, List, length, drop, rules, arith, sym, ap}
use Rattle.std.proofs.lemmas.List.{get_or-drop, with_items_is}
use Rattle.mb_map.specs.declared.step.Step.{Step}
use Rattle.mb_map.specs.declared.step.Step.TheVariants.{Pass, Hold}
use Rattle.mb_map.specs.Queue.{PassesOn}
use Rattle.mb_map.specs.Schedule.{Simulated, step_at}
use Rattle.mb_map.proofs.Standing.{drop_next, sound_step, stands_passed}
use Rattle.mb_map.proofs.sim.Sim.take.Goals as goal

pub invariant_of-self-2 : goal.invariant_of-self-2
invariant_of-self-2 c =
    let size : length c.pass_on.new.devices ≡ c.self.inside.devices.len = search rules in
    let back = with_items_is c.self.inside.devices c.pass_on.new.devices size in
    (rw back c.pass_on.ensures.apart, c.self.invariant.1, c.pass_on.ensures.left, search rules)

pub returns-clause-taken : goal.returns-clause-taken
returns-clause-taken c = λ devices script calls answers stood.
    let steps = c.self.inside.script.items in
    let used = c.self.inside.used in
    let before : Simulated = record { devices = c.self.inside.devices.items; script = drop used steps; held = c.self.inside.held.items } in
    let after : Simulated = record { devices = c.pass_on.new.devices; script = drop c.min-self-inside.result steps; held = c.pass_on.new.held.items } in
    let size : length c.pass_on.new.devices ≡ c.self.inside.devices.len = search rules in
    let back = with_items_is c.self.inside.devices c.pass_on.new.devices size in
    let place : used + 0 ≡ used = omega arith in
    let step : c.step_at-step.result ≡ step_at before.script 0 =
    c.step_at-step.ensures ∙ ap (λ (s : List Step). step_at s used) c.as_slice.ensures.value ∙ sym (get_or-drop used steps 0 Pass ∙ ap (λ (i : ℕ). step_at steps i) place) in
    let sound : step_at steps (used + 0) ≢ Hold 0 = sound_step steps (used + 0) c.self.invariant.1 in
    let passed : PassesOn before.devices (step_at before.script 0) before.held c.args.frame.now after.devices after.held c.pass_on.new.replies.items =
    rw (step, c.as_mut_slice.ensures.value, c.reserve.ensures.items) at c.pass_on.ensures.passed in
    let unused : after.script ≡ drop 1 before.script = drop_next steps used c.min-self-inside.result (search rules) (search rules) (search rules) (λ lt. search rules) (λ e. search rules) in
    rw back (stands_passed devices script calls answers before after c.args.frame.now c.pass_on.new.replies.items (rw c.self.view_is stood) (λ e. sound (sym (get_or-drop used steps 0 Pass) ∙ e)) passed unused)
