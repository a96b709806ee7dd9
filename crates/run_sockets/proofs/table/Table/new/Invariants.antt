use Rattle.std.proofs.Common.{◌≡◌, false, replicate}
use Rattle.run_sockets.proofs.table.Table.new.Given as goal

abbrev pub invariant-loop : goal.invariant-loop
invariant-loop l = l.places.items ≡ replicate l.counter false
