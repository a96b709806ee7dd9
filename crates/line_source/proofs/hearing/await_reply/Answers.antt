use Rattle.std.proofs.Common.{arith, subst, List, Option}
use Rattle.mb_mbap.specs.Counted.{inner_of}
use Rattle.mb_mbap.specs.declared.frame.Frame.{Frame}
use Rattle.mb_pdu.specs.declared.reply.Reply.{Reply}
use Rattle.line_source.specs.LineSources.{Hears, IsOther, Tells}
use Rattle.line_source.proofs.Piecewise.{all_told, hears_none, hears_others, hears_reply, hears_waiting, none_among}
use Rattle.line_source.proofs.hearing.await_reply.Goals as goal

pub pieces-init : goal.pieces-init
pieces-init g c =
    let told = subst (λ o. Tells c.args.query.now c.args.span o c.args.waiting.now c.take_reply.new.self) c.in_default.is c.take_reply.ensures in
    record {
      most = omega arith;
      others = told.0;
      none = told.1;
      heard = hears_none _ c.args.stream.now (g.R.Read.remaining (inner_of c.args.reader.now)) (none_among (IsOther c.args.query.now c.args.span));
    }

pub returns-in-Some-reply : goal.returns-in-Some-reply
returns-in-Some-reply g c =
    let unread = g.R.Read.remaining (inner_of c.args.reader.now) in
    let still = g.R.Read.remaining (inner_of c.pieces.reader) in
    let left = g.R.Read.remaining (inner_of c.read_on.new.reader) in
    let told = λ (o : Option Reply). Hears (λ (frames : List Frame). Tells c.args.query.now c.args.span o frames c.read_on.new.waiting) c.pieces.stream c.read_on.new.stream still left c.in_ok-count.count in
    hears_reply c.args.stream.now c.pieces.stream c.read_on.new.stream unread still left c.args.query.now c.args.span c.in-Some-reply.reply c.args.waiting.now c.read_on.new.waiting
    c.pieces.read c.in_ok-count.count (omega (arith, c.in_ok-count.ensures.some, c.min-most.ensures, c.pieces-test.true)) c.pieces.invariant.others c.pieces.invariant.heard
    (subst told c.in-Some-reply.is c.in_ok-count.ensures.heard)

pub returns-in-Some : goal.returns-in-Some
returns-in-Some g c =
    hears_waiting c.args.query.now c.args.span c.in-Some.reply c.args.waiting.now c.take_reply.new.self c.args.stream.now (g.R.Read.remaining (inner_of c.args.reader.now)) c.in-Some.ensures

pub pieces-preserved : goal.pieces-preserved
pieces-preserved g c =
    let unread = g.R.Read.remaining (inner_of c.args.reader.now) in
    let still = g.R.Read.remaining (inner_of c.pieces.reader) in
    let left = g.R.Read.remaining (inner_of c.read_on.new.reader) in
    let told = λ (o : Option Reply). Hears (λ (frames : List Frame). Tells c.args.query.now c.args.span o frames c.read_on.new.waiting) c.pieces.stream c.read_on.new.stream still left c.in_ok-count.count in
    let heard = subst told c.in_default-reply.is c.in_ok-count.ensures.heard in
    record {
      most = omega (arith, c.in_ok-count.ensures.some, c.min-most.ensures, c.pieces-test.true);
      others = c.pieces.invariant.others;
      none = heard.told_of.1;
      heard = hears_others c.args.stream.now c.pieces.stream c.read_on.new.stream unread still left (IsOther c.args.query.now c.args.span) c.pieces.read c.in_ok-count.count
          c.pieces.invariant.heard (all_told (IsOther c.args.query.now c.args.span) c.pieces.stream c.read_on.new.stream still left c.read_on.new.waiting c.in_ok-count.count heard);
    }
