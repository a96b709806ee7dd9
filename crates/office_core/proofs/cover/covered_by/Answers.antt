use Rattle.std.proofs.Common.{◌∙◌, ◌≡◌, List, Option, None, take, ap, sym, subst}
use Rattle.std.specs.Prelude.{option_map, slice_get}
use Rattle.point_list.specs.declared.site.Device.{Device}
use Rattle.office_core.specs.Cover as cover
use Rattle.office_core.proofs.ByDevice.{few_given, none_there}
use Rattle.office_core.proofs.cover.covered_by.Goals as goal

pub returns-in-Some-clause-few : goal.returns-in-Some-clause-few
returns-in-Some-clause-few c =
    few_given c.covered_of.result c.min-count.result c.args.known.now c.as_bytes-name.result.now c.args.asking.now.read (cover.reply_cells c.args.reply.now) c.covered_of.ensures

pub returns-in-None-clause-rows : goal.returns-in-None-clause-rows
returns-in-None-clause-rows c =
    let known = c.args.known.now in
    let asking = c.args.asking.now in
    let words = cover.reply_cells c.args.reply.now in
    let none : slice_get c.args.site.now.devices asking.device ≡ None =
    subst (λ (l : List Device). slice_get l asking.device ≡ None) c.as_slice.ensures (none_there c.as_slice.result.now asking.device c.in-None.ensures.lookup.0) in
    c.new.ensures.items ∙ ap (λ (o : Option Device). cover.given_named (take asking.known known) (option_map (λ (d : Device). d.name) o) asking.read words) (sym none)
