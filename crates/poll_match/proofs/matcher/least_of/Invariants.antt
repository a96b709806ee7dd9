use Rattle.std.proofs.Common.{take}
use Rattle.poll_match.specs.Window.{LeastIn}
use Rattle.poll_match.proofs.matcher.least_of.Given as goal

abbrev pub invariant-loop-connection : goal.invariant-loop-connection
invariant-loop-connection l = LeastIn l.line (take l.connection-index l.connections) l.least
