use Rattle.std.proofs.Common.{◌-◌, length}
use Rattle.mb_mbap.proofs.Pieces.{IsAt}
use Rattle.mb_mbap.proofs.reader.take_frames.Given as goal

abbrev pub invariant-loop-at : goal.invariant-loop-at
invariant-loop-at l = IsAt l.initial.held l.piece l.frames.items l.held l.at

abbrev pub decreases-loop-at : goal.decreases-loop-at
decreases-loop-at l = length l.piece - l.at
