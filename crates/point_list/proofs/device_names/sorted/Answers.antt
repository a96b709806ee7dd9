use Rattle.std.proofs.Common.{◌≡◌, ◌∙◌, ◌&&◌, ◌||◌, sym, ap, arith, rules, true, take, take_all}
use Rattle.std.specs.List.{list_any}
use Rattle.std.specs.Result.{is_ok}
use Rattle.std.specs.Str.{bytes_eq}
use Rattle.point_list.specs.Label.{is_label}
use Rattle.point_list.specs.declared.site.Device.{Device}
use Rattle.point_list.proofs.DeviceNames.{any-more, on_ok, shared}
use Rattle.point_list.proofs.device_names.sorted.Goals as goal

pub loop-device-preserved : goal.loop-device-preserved
loop-device-preserved c =
    let inv = c.loop-device.invariant in
    let ds = c.args.devices.now in
    let i = c.loop-device.device-index in
    let d = c.device-item.result in
    let good : is_ok c.add_device.result ≡ true = search rules in
    let added = rw c.as_bytes.ensures at (on_ok c.add_device.result good c.add_device.ensures) in
    λ text. added text ∙ ap (λ b. (is_label text && bytes_eq text d.name) || b) (inv text)
    ∙ shared (is_label text) (bytes_eq text d.name) (list_any (λ (x : Device). bytes_eq text x.name) (take i ds))
    ∙ ap (λ b. is_label text && b) (sym (any-more text ds i d (omega arith) c.device-item.is))

pub returns : goal.returns
returns c = λ text.
    c.loop-device.invariant text ∙ ap (λ ds. is_label text && list_any (λ (d : Device). bytes_eq text d.name) ds) (take_all c.loop-device.device-index c.args.devices.now (omega arith))
