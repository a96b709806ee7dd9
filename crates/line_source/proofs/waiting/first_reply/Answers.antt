use Rattle.std.proofs.Common.{[], ◌∷◌, ◌++◌, ◌∙◌, ap, sym, subst, take, arith, All}
use Rattle.std.proofs.lemmas.List.{take_more, take_all}
use Rattle.line_source.specs.LineSources.{IsOther}
use Rattle.line_source.proofs.Skipping.{answers_first}
use Rattle.line_source.proofs.waiting.first_reply.Goals as goal

pub returns-in-Some : goal.returns-in-Some
returns-in-Some c =
    let i = c.loop-place.place in
    let frames = c.args.frames.now in
    let frame = c.index-frames-place.result in (
      c.loop-place-test.true,
      answers_first c.args.query.now c.args.span c.in-Some.reply frames i frame
          (take_more frames i frame c.loop-place-test.true ∙ ap (λ e. take i frames ++ e ∷ []) (sym c.index-frames-place.is))
          c.loop-place.invariant c.in-Some.ensures.answer,
    )

pub returns : goal.returns
returns c =
    let i = c.loop-place.place in
    let frames = c.args.frames.now in
    subst (All (IsOther c.args.query.now c.args.span)) (take_all i frames (omega (arith, c.loop-place-test.false))) c.loop-place.invariant
