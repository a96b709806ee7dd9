use Rattle.mb_mbap.proofs.Standing.{feed_adds}
use Rattle.mb_mbap.proofs.reader.FrameReader.feed.Goals as goal

pub returns-clause-stream : goal.returns-clause-stream
returns-clause-stream c = λ stream before stands.
    feed_adds c.args.self.now c.take_piece.new.self c.args.piece.now c.in_ok-fed.fed.frames.items c.in_ok-fed.fed.fault stream before c.in_ok-fed.ensures.ok stands
