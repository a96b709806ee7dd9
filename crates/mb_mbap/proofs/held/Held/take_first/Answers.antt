use Rattle.std.proofs.Common.{arith, length, ap}
use Rattle.mb_mbap.proofs.Pieces.{first_whole}
use Rattle.mb_mbap.proofs.held.Held.take_first.Goals as goal

pub returns-in-Whole : goal.returns-in-Whole
returns-in-Whole c =
    let long = ap length c.as_bytes.ensures.value in
    first_whole c.args.next.now c.args.self.now c.step_of-step.result c.in-Whole.frame _ c.in-Whole.is c.requires.none (omega (arith, long)) c.step_of-step.ensures
