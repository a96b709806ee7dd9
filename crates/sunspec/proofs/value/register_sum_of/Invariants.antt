use Rattle.std.proofs.Common.{◌≡◌, take}
use Rattle.sunspec.specs.Value.{register_sum}
use Rattle.sunspec.proofs.value.register_sum_of.Given as goal

abbrev pub invariant-loop-word : goal.invariant-loop-word
invariant-loop-word l = l.sum ≡ register_sum (take l.word-index l.words)
