use Rattle.std.proofs.Common.{ap, map, ◌∙◌}
use Rattle.office_store.specs.Swaps.{as_swap}
use Rattle.office_store.proofs.Merging.{merged}
use Rattle.office_store.proofs.points.all_points.Goals as goal

pub returns-clause-value : goal.returns-clause-value
returns-clause-value g c clean kept holds =
    let before = c.all_swaps.ensures.keeps.clean clean in
    let plains = c.deref.ensures.value ∙ c.in_ok-points.ensures.value before kept holds in
    let held = c.plain_points.ensures.keeps.holds kept holds in
    let numbers = ap (map as_swap) c.deref-2.ensures.value ∙ c.in_ok-swaps.ensures.value clean kept held in
    let told = c.with_swaps.ensures in
    merged c.with_swaps.result kept.points c.deref.result.now c.deref-2.result.now (c.in_ok-points.ensures.in_order before kept holds) plains numbers told.plain told.swaps
