use Rattle.std.proofs.Common.{◌∙◌, ℕ, List, ap, sym}
use Rattle.std.proofs.lemmas.List.{take_all}
use Rattle.poll_book.specs.declared.rows.PointRow.{PointRow}
use Rattle.office_core.specs.ByDevice.{points_at}
use Rattle.office_core.specs.Cover as cover
use Rattle.office_core.proofs.ByDevice.{any_so, none_more, some_there}
use Rattle.office_core.proofs.cover.some_covered_at.Goals as goal

pub loop-place-preserved : goal.loop-place-preserved
loop-place-preserved c =
    none_more (λ (row : PointRow). cover.covers c.args.device.now c.args.read.now row.point) c.args.known.now c.args.places.now c.loop-place.place-index c.loop-place-test.true
    c.loop-place.invariant (sym c.covers_at.ensures ∙ c.if-covers_at.false)

pub returns-then-covers_at : goal.returns-then-covers_at
returns-then-covers_at c =
    let known = c.args.known.now in
    let device = c.args.device.now in
    let read = c.args.read.now in
    any_so (λ (row : PointRow). cover.covers device read row.point) known c.args.places.now c.loop-place.place-index c.loop-place-test.true (sym c.covers_at.ensures ∙ c.if-covers_at.true)
    ∙ ap (λ (places : List ℕ). cover.some_covered (points_at known places) device read) c.requires
    ∙ some_there known device read

pub returns : goal.returns
returns c =
    let known = c.args.known.now in
    let device = c.args.device.now in
    let read = c.args.read.now in
    let all = take_all c.loop-place.place-index c.args.places.now c.loop-place-test.false in
    sym c.loop-place.invariant
    ∙ ap (λ (places : List ℕ). cover.some_covered (points_at known places) device read) (all ∙ c.requires)
    ∙ some_there known device read
