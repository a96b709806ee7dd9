use Rattle.std.proofs.Common.{◌∙◌, Some, sym, ap}
use Rattle.poll_book.proofs.Counted.{point_here}
use Rattle.poll_book.proofs.points.point_of.Goals as goal

pub returns-then-place-counted : goal.returns-then-place-counted
returns-then-place-counted c =
    ap Some c.index-points-place.is
    ∙ sym (point_here c.args.points.now c.args.counted c.args.number c.index-points-place.result c.requires c.if-place-ge1.true c.if-place-counted.true)
