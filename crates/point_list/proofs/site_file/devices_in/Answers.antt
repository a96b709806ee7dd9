use Rattle.std.proofs.Common.{◌≡◌, ◌∙◌, true, rules, arith, sym}
use Rattle.std.proofs.lemmas.Result.{err_from_is_err_and}
use Rattle.std.specs.Result.{is_ok}
use Rattle.toml.specs.View.{items_view, view}
use Rattle.toml_members.specs.Members.{each}
use Rattle.point_list.specs.SiteFile.{device_in}
use Rattle.toml_members.proofs.Each.{each_more, each_fails, each_ends}
use Rattle.point_list.proofs.Failing.{fails_more, given_at}
use Rattle.point_list.proofs.site_file.devices_in.Goals as goal

pub returns-in_err-device : goal.returns-in_err-device
returns-in_err-device c =
    let vs = c.args.entries.now in
    let i = c.loop-index.index in
    let entry = c.index-entries-index.result in
    let p = err_from_is_err_and c.from_residual.result c.from_residual.ensures.1 in
    let given = given_at (λ x. x) _ c.device_in.result ((device_in c.args.lines.now) (view entry)) _ c.in_err-device.ensures c.device_in.ensures in
    rw (p.1, p.2) (fails_more c.in_err-device.field-0.0.fault ((device_in c.args.lines.now) (view entry)) (each (device_in c.args.lines.now) (items_view vs)) given
    (λ none. sym c.loop-index.invariant ∙ each_fails (device_in c.args.lines.now) c.loop-index.devices.items vs i entry (omega arith) c.index-entries-index.is none))

pub loop-index-preserved : goal.loop-index-preserved
loop-index-preserved c =
    let vs = c.args.entries.now in
    let i = c.loop-index.index in
    let entry = c.index-entries-index.result in
    let good : is_ok c.push.result ≡ true = search rules in
    let items = rw good at c.push.ensures.items in
    let given = given_at (λ x. x) _ c.device_in.result ((device_in c.args.lines.now) (view entry)) _ c.in_ok-device.ensures c.device_in.ensures in
    let more = each_more (device_in c.args.lines.now) c.loop-index.devices.items vs i entry c.in_ok-device.device (omega arith) c.index-entries-index.is given in
    rw items (sym more ∙ c.loop-index.invariant)

pub returns : goal.returns
returns c = sym c.loop-index.invariant ∙ each_ends (device_in c.args.lines.now) c.loop-index.devices.items c.args.entries.now c.loop-index.index (omega arith)
