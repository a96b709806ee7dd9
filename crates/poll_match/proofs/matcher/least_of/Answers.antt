use Rattle.std.proofs.Common.{arith}
use Rattle.poll_match.proofs.Least.{least_more}
use Rattle.poll_match.proofs.matcher.least_of.Goals as goal

pub loop-connection-preserved : goal.loop-connection-preserved
loop-connection-preserved c =
    rw c.least_with-least.ensures (least_more c.args.line c.args.connections.now c.loop-connection.connection-index c.connection-item.result c.loop-connection.least (omega arith) c.connection-item.is c.loop-connection.invariant)
