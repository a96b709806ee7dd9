use Rattle.std.proofs.Common.{arith}
use Rattle.sunspec.proofs.Sums.{register_sum_more}
use Rattle.sunspec.proofs.value.register_sum_of.Goals as goal

pub overflow_mul-sum : goal.overflow_mul-sum
overflow_mul-sum c =
    let more = register_sum_more c.args.words.now c.loop-word.word-index (λ k. omega (arith, c.type_inv.words k)) c.requires (omega arith) in
    omega (arith, more.0, more.1)

pub overflow_add-sum : goal.overflow_add-sum
overflow_add-sum c =
    let more = register_sum_more c.args.words.now c.loop-word.word-index (λ k. omega (arith, c.type_inv.words k)) c.requires (omega arith) in
    omega (arith, more.0, more.1)

pub loop-word-preserved : goal.loop-word-preserved
loop-word-preserved c =
    let more = register_sum_more c.args.words.now c.loop-word.word-index (λ k. omega (arith, c.type_inv.words k)) c.requires (omega arith) in
    omega (arith, more.0, more.1)
