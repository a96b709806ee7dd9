use Rattle.std.proofs.Common.{◌≡◌, [], ◌-◌, ◌≤◌, All}
use Rattle.mb_mbap.specs.Counted.{inner_of}
use Rattle.line_source.specs.LineSources.{Hears, IsOther}
use Rattle.line_source.proofs.hearing.await_reply.Given as goal

abbrev pub invariant-pieces : goal.invariant-pieces
invariant-pieces g l = record {
  most : l.read ≤ 65536;
  others : All (IsOther l.query l.span) l.fn.waiting;
  none : l.waiting ≡ [];
  heard : Hears (All (IsOther l.query l.span)) l.fn.stream l.stream (g.R.Read.remaining (inner_of l.fn.reader)) (g.R.Read.remaining (inner_of l.reader)) l.read;
}

abbrev pub decreases-pieces : goal.decreases-pieces
decreases-pieces g l = 65536 - l.read
