use Rattle.std.proofs.Common.{arith, ◌∙◌}
use Rattle.std.proofs.lemmas.List.{length-set}
use Rattle.sunspec.proofs.Texts.{words_text_more}
use Rattle.sunspec.proofs.value.bytes_of.Goals as goal

pub loop-place-preserved : goal.loop-place-preserved
loop-place-preserved c = (
  length-set _ _ _ ∙ length-set _ _ _ ∙ c.loop-place.invariant.0,
  words_text_more c.loop-place.bytes c.args.words.now c.loop-place.place c.loop-place.invariant.0 c.requires (omega arith) c.loop-place.invariant.1,
)
