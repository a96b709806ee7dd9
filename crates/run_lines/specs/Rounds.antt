-- Queries of rounds.
use Rattle.std.specs.Prelude.{ℕ, Option, Some, None}
use Rattle.mb_mbap.specs.declared.frame.Frame.{Frame}
use Rattle.run_lines.specs.declared.round.Asked.{Asked}

-- the frame of a query, if one is made
abbrev pub query_of : Option Asked → Option Frame
query_of None = None
query_of (Some asked) = Some asked.query

-- the number of the order that it is for, if it is for one
abbrev pub number_for : Option Asked → Option ℕ
number_for None = None
number_for (Some asked) = asked.order
