use Rattle.std.proofs.Common.{arith}
use Rattle.mb_map.proofs.Digits.{value_more}
use Rattle.mb_map.proofs.image.value_of.Goals as goal

pub overflow_mul-value : goal.overflow_mul-value
overflow_mul-value c =
    let more = value_more c.args.digits.now c.loop-digit.digit-index c.requires.digits c.requires.short (omega arith) in
    omega (arith, more.0, more.1)

pub overflow_add-value : goal.overflow_add-value
overflow_add-value c =
    let more = value_more c.args.digits.now c.loop-digit.digit-index c.requires.digits c.requires.short (omega arith) in
    omega (arith, more.0, more.1)

pub loop-digit-preserved : goal.loop-digit-preserved
loop-digit-preserved c =
    let more = value_more c.args.digits.now c.loop-digit.digit-index c.requires.digits c.requires.short (omega arith) in
    omega (arith, more.0, more.1)
