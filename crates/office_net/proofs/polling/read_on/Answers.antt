use Rattle.std.proofs.Common.{[], ◌++◌, ◌+◌, ◌*◌, ◌≤◌, ◌∙◌, ap, subst, take, arith, length, length-take-le}
use Rattle.std.proofs.KnownBytes.{Consumes-nil}
use Rattle.std.proofs.lemmas.List.{append-nil}
use Rattle.mb_mbap.specs.Counted.{HasRisen, failures_of, inner_of}
use Rattle.office_core.specs.Offices.{CauseFrom, keeper_of}
use Rattle.office_net.specs.Faults.{NoneFailed}
use Rattle.office_net.specs.Rounds.{BreaksIn, Handles}
use Rattle.office_net.specs.Stages.{taken_of}
use Rattle.office_net.specs.declared.fault.PollFault.TheVariants.{Noise, Memory}
use Rattle.office_net.proofs.Called.{caused_so}
use Rattle.office_net.proofs.Causing.{frames_open, line_open, line_stream}
use Rattle.office_net.proofs.Cutting.{cut_unfed, cut_in, cut_after, frames_few, takes_whole}
use Rattle.office_net.proofs.Pieces.{breaks_later, breaks_still}
use Rattle.office_net.proofs.polling.read_on.Goals as goal

pub take_frames-requires : goal.take_frames-requires
take_frames-requires g c =
    let (bytes, frames, fed) = c.requires.fed in
    let piece = take c.in_ok-count.count c.read_some.new.piece in
    let adds = c.in_ok-fed.ensures.stream bytes frames fed.frames_are in
    let few : 8 * (taken_of c.args.poll.now + length c.in_ok-fed.fed.frames.items) ≤ c.args.read + length piece =
    frames_few c.args.stream.now c.args.poll.now c.args.read bytes frames piece c.in_ok-fed.fed.frames.items c.in_ok-fed.fed.fault c.feed.new.self fed adds in
    record {
      few = omega (arith, few, c.deref.ensures.value, ap length c.deref.ensures.value, c.requires.limit, length-take-le c.in_ok-count.count c.read_some.new.piece (omega (arith, c.in_ok-count.ensures.some, c.min-most.ensures)), c.in_ok-count.ensures.some, c.min-most.ensures);
      waits = c.requires.waits;
    }

pub returns-then-read-ge-MOST_READ-clause-cuts : goal.returns-then-read-ge-MOST_READ-clause-cuts
returns-then-read-ge-MOST_READ-clause-cuts g c = λ clean bytes frames fed.
    let unread = g.R.Read.remaining (inner_of c.args.reader.now) in
    let wrote = g.W.Write.contents (inner_of c.args.writer.now) in
    cut_unfed _ c.args.poll.now c.args.stream.now c.args.read bytes frames unread unread [] Noise fed (Consumes-nil unread)
    (λ rest. omega (arith, ap length (append-nil bytes), fed.read_are, c.if-read-ge-MOST_READ.true))
    (breaks_still c.args.office.now c.args.poll.now (NoneFailed c.args.writer.now c.args.writer.now) wrote Noise (λ now conn. tt))

pub returns-in_err-count-clause-cuts : goal.returns-in_err-count-clause-cuts
returns-in_err-count-clause-cuts g c = λ clean bytes frames fed.
    let unread = g.R.Read.remaining (inner_of c.args.reader.now) in
    let left = g.R.Read.remaining (inner_of c.read_some.new.reader) in
    let wrote = g.W.Write.contents (inner_of c.args.writer.now) in
    let e = c.in_err-count.field-0.0 in
    let line = c.in_err-count.ensures.failed.0 in
    caused_so c.from_residual.result _ e c.from_residual.ensures.1
    (cut_unfed _ c.args.poll.now c.args.stream.now c.args.read bytes frames unread left [] e fed c.in_err-count.ensures.bytes
    (λ rest. line_stream e line (bytes ++ []) rest) (breaks_still c.args.office.now c.args.poll.now (NoneFailed c.args.writer.now c.args.writer.now) wrote e (line_open e line)))

pub returns-in_err-fed-clause-cuts : goal.returns-in_err-fed-clause-cuts
returns-in_err-fed-clause-cuts g c = λ clean bytes frames fed.
    let unread = g.R.Read.remaining (inner_of c.args.reader.now) in
    let left = g.R.Read.remaining (inner_of c.read_some.new.reader) in
    let wrote = g.W.Write.contents (inner_of c.args.writer.now) in
    caused_so c.from_residual-in_err-fed.result _ Memory c.from_residual-in_err-fed.ensures.1
    (cut_unfed _ c.args.poll.now c.args.stream.now c.args.read bytes frames unread left (take c.in_ok-count.count c.read_some.new.piece) Memory fed c.in_ok-count.ensures.bytes
    (λ rest. tt) (breaks_still c.args.office.now c.args.poll.now (NoneFailed c.args.writer.now c.args.writer.now) wrote Memory (λ now conn. tt)))

pub returns-in_err-take_frames-clause-cuts : goal.returns-in_err-take_frames-clause-cuts
returns-in_err-take_frames-clause-cuts g c = λ clean bytes frames fed.
    let e = c.in_err-take_frames.field-0.0 in
    caused_so c.from_residual-in_err-take_frames.result _ e c.from_residual-in_err-take_frames.ensures.1
    (cut_in c.args.poll.now c.args.stream.now c.feed.new.self c.args.read 0 bytes frames (g.R.Read.remaining (inner_of c.args.reader.now)) (g.R.Read.remaining (inner_of c.read_some.new.reader))
    (take c.in_ok-count.count c.read_some.new.piece) c.in_ok-fed.fed.frames.items c.in_ok-fed.fed.fault fed (c.in_ok-fed.ensures.stream bytes frames fed.frames_are) c.in_ok-count.ensures.bytes
    _ e (HasRisen (failures_of c.args.writer.now) (failures_of c.take_frames.new.writer)) (CauseFrom c.args.office.now c.take_frames.new.office) c.in_err-take_frames.ensures.accounts.0
    (subst (BreaksIn _) c.deref.ensures.value (c.in_err-take_frames.ensures.goes clean)))

pub returns-in_err-judge_stream-clause-cuts : goal.returns-in_err-judge_stream-clause-cuts
returns-in_err-judge_stream-clause-cuts g c = λ clean bytes frames fed.
    let e = c.in_err-judge_stream.field-0.0 in
    let (bad, told, is) = c.in_err-judge_stream.ensures in
    let old = c.args.office.now in
    let new = c.take_frames.new.office in
    let wrote = g.W.Write.contents (inner_of c.args.writer.now) in
    let writes = g.W.Write.contents (inner_of c.take_frames.new.writer) in
    caused_so c.from_residual-in_err-judge_stream.result _ e c.from_residual-in_err-judge_stream.ensures.1
    (cut_after c.args.poll.now c.args.stream.now c.feed.new.self c.args.read 0 bytes frames (g.R.Read.remaining (inner_of c.args.reader.now)) (g.R.Read.remaining (inner_of c.read_some.new.reader))
    (take c.in_ok-count.count c.read_some.new.piece) c.in_ok-fed.fed.frames.items c.in_ok-fed.fed.fault fed (c.in_ok-fed.ensures.stream bytes frames fed.frames_are) c.in_ok-count.ensures.bytes
    _ e bad is c.requires.sound told
    (breaks_later old new c.args.poll.now c.take_frames.new.poll c.in_ok-fed.fed.frames.items (NoneFailed c.args.writer.now c.take_frames.new.writer) wrote writes e (frames_open e bad is)
    (subst (λ l. Handles old c.args.poll.now new c.take_frames.new.poll l wrote writes) c.deref.ensures.value (c.in_ok-take_frames.ensures.goes clean))))

pub returns-clause-takes : goal.returns-clause-takes
returns-clause-takes g c = λ bytes frames fed.
    takes_whole c.args.poll.now c.args.stream.now c.feed.new.self c.args.read c.in_ok-count.count bytes frames
    (g.R.Read.remaining (inner_of c.args.reader.now)) (g.R.Read.remaining (inner_of c.read_some.new.reader)) (take c.in_ok-count.count c.read_some.new.piece)
    c.in_ok-fed.fed.frames.items c.in_ok-fed.fed.fault fed (c.in_ok-fed.ensures.stream bytes frames fed.frames_are) c.in_ok-count.ensures.bytes
    (λ came. g.K.Neighbours.is_clean (keeper_of c.take_frames.new.office) → Handles c.args.office.now c.args.poll.now c.take_frames.new.office c.take_frames.new.poll came (g.W.Write.contents (inner_of c.args.writer.now)) (g.W.Write.contents (inner_of c.take_frames.new.writer)))
    c.take_frames.new.poll
    (λ clean. subst (λ l. Handles c.args.office.now c.args.poll.now c.take_frames.new.office c.take_frames.new.poll l (g.W.Write.contents (inner_of c.args.writer.now)) (g.W.Write.contents (inner_of c.take_frames.new.writer)))
    c.deref.ensures.value (c.in_ok-take_frames.ensures.goes clean))
    (length-take-le c.in_ok-count.count c.read_some.new.piece (omega (arith, c.in_ok-count.ensures.some, c.min-most.ensures)))
    (c.in_ok-take_frames.ensures.taken ∙ ap (λ n. taken_of c.args.poll.now + n) (ap length c.deref.ensures.value))
