use Rattle.std.proofs.Common.{arith}
use Rattle.mb_map.proofs.Left.{same_held}
use Rattle.mb_map.proofs.queue.count_down.Goals as goal

pub returns : goal.returns
returns c = same_held c.loop-held.held c.args.held.now c.loop-held.invariant.size (λ k d lt. c.loop-held.invariant.below k d (omega arith))
