use Rattle.std.proofs.Common.{◌∙◌, sym}
use Rattle.std.specs.Str.{bytes_eq}
use Rattle.point_list.specs.Sites.{same_device_name}
use Rattle.point_list.specs.declared.site.Device.{Device}
use Rattle.toml_members.proofs.Places.{any_found, none_found}
use Rattle.point_list.proofs.Differ.{differ_found, differ_more, differ_none}
use Rattle.point_list.proofs.agreeing.+repeated_device.Goals as goal

pub returns-in_err-first-clause-none : goal.returns-in_err-first-clause-none
returns-in_err-first-clause-none t c = rw c.from_residual.ensures (sym (differ_none same_device_name c.args.devices.now c.in_err-first.ensures.cases))

pub returns-in-Some-clause-none : goal.returns-in-Some-clause-none
returns-in-Some-clause-none t c =
    let rest = c.in_ok-first.rest.now in
    let found = any_found (λ (x : Device). bytes_eq x.name c.in_ok-first.first.now.name) rest c.in-Some.index (sym (rw c.as_str.ensures at c.in-Some.ensures)) in
    sym (differ_found same_device_name c.args.devices.now c.in_ok-first.first.now rest c.in_ok-first.ensures.cases.0 found)

pub returns-in_err-repeated_device-in-None-clause-none : goal.returns-in_err-repeated_device-in-None-clause-none
returns-in_err-repeated_device-in-None-clause-none t c =
    let rest = c.in_ok-first.rest.now in
    let none = none_found (λ (x : Device). bytes_eq x.name c.in_ok-first.first.now.name) rest (sym (rw c.as_str.ensures at c.in-None.ensures)) in
    let more = differ_more same_device_name c.args.devices.now c.in_ok-first.first.now rest c.in_ok-first.ensures.cases.0 none in
    rw c.from_residual-in_err-repeated_device-in-None.ensures (c.in_err-repeated_device-in-None.ensures.none ∙ sym more)

pub returns-in_ok-repeated_device-in-None-clause-none : goal.returns-in_ok-repeated_device-in-None-clause-none
returns-in_ok-repeated_device-in-None-clause-none t c =
    let rest = c.in_ok-first.rest.now in
    let none = none_found (λ (x : Device). bytes_eq x.name c.in_ok-first.first.now.name) rest (sym (rw c.as_str.ensures at c.in-None.ensures)) in
    let more = differ_more same_device_name c.args.devices.now c.in_ok-first.first.now rest c.in_ok-first.ensures.cases.0 none in
    c.in_ok-repeated_device-in-None.ensures.none ∙ sym more
