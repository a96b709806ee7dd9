use Rattle.std.proofs.Common.{refl, [], ◌∷◌, ◌++◌, ◌+◌, ◌≡◌, ◌∙◌, ap, sym, subst, take, drop, arith, take-append-drop}
use Rattle.std.proofs.lemmas.List.{append-nil, take_more}
use Rattle.mb_mbap.specs.Counted.{inner_of}
use Rattle.office_net.specs.Faults.{NoneFailed}
use Rattle.office_net.specs.Rounds.{Handles}
use Rattle.office_net.proofs.Called.{err_so}
use Rattle.office_net.proofs.Pieces.{handles_none, handles_then, handles_frame, breaks_after, breaks_refused, breaks_with, calm_later, joined}
use Rattle.office_net.proofs.polling.take_frames.Goals as goal

pub loop-frame-init : goal.loop-frame-init
loop-frame-init g c = record {
  goes = λ _. handles_none c.args.office.now c.args.poll.now (g.W.Write.contents (inner_of c.args.writer.now));
  counted = omega arith;
  clean = λ clean. clean;
  waits = c.requires.waits;
  calm = refl;
  taken = omega arith;
}

pub returns-in_err-take-clause-goes : goal.returns-in_err-take-clause-goes
returns-in_err-take-clause-goes g c = λ clean.
    let i = c.loop-frame.frame-index in
    let frames = c.args.frames.now in
    let frame = c.frame-item.result in
    let first = c.args.office.now in
    let now = c.loop-frame.office in
    let next = c.take.new.office in
    let poll = c.args.poll.now in
    let here = c.loop-frame.poll in
    let there = c.take.new.self in
    let start = g.W.Write.contents (inner_of c.args.writer.now) in
    let wrote = g.W.Write.contents (inner_of c.loop-frame.writer) in
    let calm = NoneFailed c.args.writer.now c.loop-frame.writer in
    let e = c.in_err-take.field-0.0 in
    let more : take (i + 1) frames ≡ take i frames ++ frame ∷ [] = take_more frames i frame c.loop-frame-test.true ∙ ap (λ e. take i frames ++ e ∷ []) (sym c.frame-item.is) in
    let later = drop (i + 1) frames in
    err_so c.from_residual.result _ _ e c.from_residual.ensures.1 (
      take i frames ++ [],
      frame ∷ later,
      ap (λ l. l ++ frame ∷ later) (append-nil (take i frames)) ∙ joined (take i frames) frame later (take (i + 1) frames) more ∙ take-append-drop (i + 1) frames,
      breaks_after first now next poll here there (take i frames) [] (frame ∷ later) calm calm start wrote wrote e
          (c.loop-frame.invariant.goes (c.take.ensures.accounts.2 clean)) (λ quiet. quiet)
          (breaks_with now next here there [] (frame ∷ []) later calm wrote wrote e
          (breaks_refused now next here there [] (frame ∷ []) calm wrote e (c.in_err-take.ensures.goes clean))),
    )

pub returns-in_err-send-clause-goes : goal.returns-in_err-send-clause-goes
returns-in_err-send-clause-goes g c = λ clean.
    let i = c.loop-frame.frame-index in
    let frames = c.args.frames.now in
    let frame = c.frame-item.result in
    let first = c.args.office.now in
    let now = c.loop-frame.office in
    let next = c.take.new.office in
    let last = c.send.new.office in
    let poll = c.args.poll.now in
    let here = c.loop-frame.poll in
    let there = c.take.new.self in
    let done = c.send.new.poll in
    let start = g.W.Write.contents (inner_of c.args.writer.now) in
    let wrote = g.W.Write.contents (inner_of c.loop-frame.writer) in
    let writes = g.W.Write.contents (inner_of c.send.new.writer) in
    let calm = NoneFailed c.args.writer.now c.send.new.writer in
    let calm' = NoneFailed c.loop-frame.writer c.send.new.writer in
    let e = c.in_err-send.field-0.0 in
    let more : take (i + 1) frames ≡ take i frames ++ frame ∷ [] = take_more frames i frame c.loop-frame-test.true ∙ ap (λ e. take i frames ++ e ∷ []) (sym c.frame-item.is) in
    let later = drop (i + 1) frames in
    err_so c.from_residual-in_err-send.result _ _ e c.from_residual-in_err-send.ensures.1 (
      (take i frames ++ frame ∷ []) ++ [],
      later,
      ap (λ l. l ++ later) (append-nil (take i frames ++ frame ∷ []) ∙ sym more) ∙ take-append-drop (i + 1) frames,
      breaks_after first next last poll there done (take i frames ++ frame ∷ []) [] later calm calm' start wrote writes e
          (handles_then first now next poll here there (take i frames) (frame ∷ []) start wrote wrote
          (c.loop-frame.invariant.goes (c.take.ensures.accounts.2 (c.send.ensures.accounts.2 clean)))
          (handles_frame now next here there frame wrote (c.in_ok-take.ensures.goes (c.send.ensures.accounts.2 clean))))
          (calm_later c.args.writer.now c.loop-frame.writer c.send.new.writer c.loop-frame.invariant.calm)
          (breaks_with next last there done [] [] later calm' wrote writes e (c.in_err-send.ensures.goes clean)),
    )

pub loop-frame-preserved : goal.loop-frame-preserved
loop-frame-preserved g c =
    let i = c.loop-frame.frame-index in
    let frames = c.args.frames.now in
    let frame = c.frame-item.result in
    let first = c.args.office.now in
    let now = c.loop-frame.office in
    let next = c.take.new.office in
    let last = c.send.new.office in
    let poll = c.args.poll.now in
    let here = c.loop-frame.poll in
    let there = c.take.new.self in
    let done = c.send.new.poll in
    let start = g.W.Write.contents (inner_of c.args.writer.now) in
    let wrote = g.W.Write.contents (inner_of c.loop-frame.writer) in
    let writes = g.W.Write.contents (inner_of c.send.new.writer) in
    let more : take (i + 1) frames ≡ take i frames ++ frame ∷ [] = take_more frames i frame c.loop-frame-test.true ∙ ap (λ e. take i frames ++ e ∷ []) (sym c.frame-item.is) in
    record {
      goes = λ clean. subst (λ l. Handles first poll last done l start writes) (append-nil (take i frames ++ frame ∷ []) ∙ sym more)
          (handles_then first next last poll there done (take i frames ++ frame ∷ []) [] start wrote writes
          (handles_then first now next poll here there (take i frames) (frame ∷ []) start wrote wrote
          (c.loop-frame.invariant.goes (c.take.ensures.accounts.2 (c.send.ensures.accounts.2 clean)))
          (handles_frame now next here there frame wrote (c.in_ok-take.ensures.goes (c.send.ensures.accounts.2 clean))))
          (c.in_ok-send.ensures.goes clean));
      counted = omega (arith, c.loop-frame.invariant.counted, c.take.ensures.accounts.1, c.send.ensures.accounts.1);
      clean = λ clean. c.loop-frame.invariant.clean (c.take.ensures.accounts.2 (c.send.ensures.accounts.2 clean));
      waits = c.in_ok-send.ensures.waits;
      calm = c.in_ok-send.ensures.calm ∙ c.loop-frame.invariant.calm;
      taken = omega (arith, c.send.ensures.taken, c.in_ok-take.ensures.taken, c.loop-frame.invariant.taken);
    }
