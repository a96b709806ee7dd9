use Rattle.std.proofs.Common.{◌≡◌, take}
use Rattle.poll_match.specs.Window.{greatest_of}
use Rattle.poll_match.proofs.matcher.greatest_in.Given as goal

abbrev pub invariant-loop-connection : goal.invariant-loop-connection
invariant-loop-connection l = l.greatest ≡ greatest_of (take l.connection-index l.connections)
