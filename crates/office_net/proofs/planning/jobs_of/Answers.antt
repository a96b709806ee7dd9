use Rattle.std.proofs.Common.{List, ◌≡◌, ◌<◌, get_or, ◌++◌, ◌∷◌, [], ◌∙◌, ap, length, subst, sym, take}
use Rattle.point_list.specs.declared.site.Device.{Device}
use Rattle.std.proofs.lemmas.List.{take_more}
use Rattle.office_net.proofs.Planned.{jobs_next}
use Rattle.office_net.proofs.planning.jobs_of.Goals as goal

pub loop-device-preserved : goal.loop-device-preserved
loop-device-preserved c =
    let i = c.loop-device.device-index in
    let devices = c.args.site.now.devices in
    let device = c.device-item.result in
    record {
      added = λ all.
          jobs_next c.args.known.now c.args.line i devices device c.loop-device.all.items c.add_device.new.all.items
          (take_more devices i device (subst (λ (l : List Device). i < length l) c.as_slice-device-items.ensures c.loop-device-test.true) ∙ ap (λ e. take i devices ++ e ∷ []) (sym (subst (λ (l : List Device). device ≡ get_or l i device) c.as_slice-device-items.ensures c.device-item.is)))
          (c.loop-device.invariant.added all) c.in_ok-add_device.ensures.other (λ own. c.in_ok-add_device.ensures.own own all);
    }
