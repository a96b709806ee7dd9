use Rattle.std.proofs.Common.{◌∙◌, ℕ, ap}
use Rattle.mb_map.specs.Schedule.{with_tables}
use Rattle.mb_map.specs.Tables.{Tables}
use Rattle.mb_map.proofs.Serving.{found, not_found, on_true_more, set_tables}
use Rattle.mb_map.proofs.devices.set_number.Goals as goal

pub returns-in_default-clause-test : goal.returns-in_default-clause-test
returns-in_default-clause-test c = rw (not_found c.args.devices.now c.args.unit_id c.in_default.ensures.none) (λ t. cc, λ none. absurd none)

pub returns-clause-test : goal.returns-clause-test
returns-clause-test c =
    let place = c.in-Some.place in
    let d = c.index-devices-place.result in
    rw (found c.args.devices.now place c.args.unit_id d c.requires c.in-Some.ensures.place (c.in-Some.ensures.found d)) c.set.ensures.test

pub returns-clause-done : goal.returns-clause-done
returns-clause-done c =
    let devices = c.args.devices.now in
    let place = c.in-Some.place in
    let d = c.index-devices-place.result in
    let here = c.in-Some.ensures.found d in
    rw (found devices place c.args.unit_id d c.requires c.in-Some.ensures.place here) (on_true_more c.set.result _ _
    (λ e. set_tables devices place c.set.new.self d c.requires c.in-Some.ensures.place
    ∙ ap (λ (n : ℕ). with_tables n c.set.new.self devices) here
    ∙ ap (λ (t : Tables). with_tables c.args.unit_id t devices) e)
    c.set.ensures.done)
