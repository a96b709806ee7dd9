use Rattle.std.proofs.Common.{take, All}
use Rattle.line_source.specs.LineSources.{IsOther}
use Rattle.line_source.proofs.waiting.first_reply.Given as goal

abbrev pub invariant-loop-place : goal.invariant-loop-place
invariant-loop-place l = All (IsOther l.query l.span) (take l.place l.frames)
