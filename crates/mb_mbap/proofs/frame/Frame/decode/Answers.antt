use Rattle.std.proofs.Common.{arith}
use Rattle.mb_mbap.proofs.Whole.{computed, decodes}
use Rattle.mb_mbap.proofs.frame.Frame.decode.Goals as goal

pub returns-clause-inverse : goal.returns-clause-inverse
returns-clause-inverse c = decodes c.args.bytes.now c.whole.result c.whole.ensures.frame c.whole.ensures.fault

pub returns-clause-value : goal.returns-clause-value
returns-clause-value c = computed c.args.bytes.now c.whole.result (λ k. let small = c.type_inv.bytes k in omega (arith, small)) c.whole.ensures.frame c.whole.ensures.fault
