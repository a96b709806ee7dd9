use Rattle.std.proofs.lemmas.List.{take_rest}
use Rattle.mb_mbap.proofs.Pieces.{after_more, after_whole, stops_at_bad}
use Rattle.mb_mbap.proofs.reader.take_frames.Goals as goal

pub loop-at-preserved-in-More : goal.loop-at-preserved-in-More
loop-at-preserved-in-More c =
    after_more c.args.held.now c.args.piece.now c.loop-at.frames.items c.loop-at.held c.take-taken.new.self _ c.loop-at.at c.take-taken.result.0 c.take-taken.result.1 c.loop-at.invariant
    (take_rest c.args.piece.now c.loop-at.at) c.in-More.is c.take-taken.ensures

pub loop-at-preserved : goal.loop-at-preserved
loop-at-preserved c =
    after_whole c.args.held.now c.args.piece.now c.loop-at.frames.items c.push.new.self.items c.loop-at.held c.take-taken.new.self _ c.loop-at.at c.take-taken.result.0 c.take-taken.result.1 c.in-Whole.frame c.loop-at.invariant
    (take_rest c.args.piece.now c.loop-at.at) c.in-Whole.is c.take-taken.ensures c.in_ok-push-in-Whole.ensures.items

pub returns-in-Bad : goal.returns-in-Bad
returns-in-Bad c =
    let s = stops_at_bad c.args.held.now c.args.piece.now c.loop-at.frames.items c.loop-at.held c.take-taken.new.self _ c.loop-at.at c.take-taken.result.0 c.take-taken.result.1 c.in-Bad.fault c.loop-at.invariant
    (take_rest c.args.piece.now c.loop-at.at) c.in-Bad.is c.take-taken.ensures in
    (s.0, s.1, s.2, λ no. absurd (cc))
