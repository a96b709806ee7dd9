use Rattle.std.proofs.Common.{◌∙◌, ◌≡◌, ap}
use Rattle.std.proofs.lemmas.List.{take_all}
use Rattle.point_list.specs.Label.{is_label}
use Rattle.office_core.specs.ByDevice.{listed, places_from, places_in}
use Rattle.poll_book.proofs.Marked.{label_is}
use Rattle.office_core.proofs.by_device.ByDevice.places.Goals as goal

pub returns-else-len-known : goal.returns-else-len-known
returns-else-len-known c =
    let known = c.args.known.now in
    let devices = c.args.self.now in
    let label : c.in_ok-device.device ≡ c.args.device.now = label_is (is_label c.args.device.now) c.in_ok-device.device c.args.device.now c.in_ok-device.ensures in
    c.as_slice.ensures.value ∙ ap places_in c.in-Some.ensures.value ∙ ap (listed devices) label ∙ c.requires.1 c.args.device.now
    ∙ ap (places_from 0 c.args.device.now) (take_all devices.count known c.if-self-known.false)

pub returns-in-None : goal.returns-in-None
returns-in-None c =
    let known = c.args.known.now in
    let devices = c.args.self.now in
    let label : c.in_ok-device.device ≡ c.args.device.now = label_is (is_label c.args.device.now) c.in_ok-device.device c.args.device.now c.in_ok-device.ensures in
    ap places_in c.in-None.ensures.value ∙ ap (listed devices) label ∙ c.requires.1 c.args.device.now
    ∙ ap (places_from 0 c.args.device.now) (take_all devices.count known c.if-self-known.false)
