use Rattle.std.proofs.Common.{take, arith, refl, subst, List, length-take-le}
use Rattle.mb_mbap.specs.Counted.{inner_of}
use Rattle.mb_mbap.specs.declared.frame.Frame.{Frame}
use Rattle.line_source.specs.LineSources.{Tells}
use Rattle.line_source.proofs.Piecewise.{hears_piece}
use Rattle.line_source.proofs.hearing.read_on.Goals as goal

pub returns-clause-heard : goal.returns-clause-heard
returns-clause-heard g c =
    let count = c.in_ok-count.count in
    let piece = take count c.read_some.new.piece in
    let told = λ (frames : List Frame). Tells c.args.query.now c.args.span c.take_reply-reply.result frames c.take_reply-reply.new.self in
    hears_piece told c.args.stream.now c.feed.new.self
    (g.R.Read.remaining (inner_of c.args.reader.now)) (g.R.Read.remaining (inner_of c.read_some.new.reader)) piece piece c.in-Ok.fed.frames.items c.in-Ok.fed.fault count refl
    (length-take-le count c.read_some.new.piece (omega (arith, c.in_ok-count.ensures.some, c.requires.few, c.read_some.ensures.same)))
    c.in_ok-count.ensures.bytes c.in-Ok.ensures.stream (subst told c.new.ensures c.take_reply-reply.ensures)
