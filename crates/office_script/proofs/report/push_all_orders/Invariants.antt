use Rattle.std.proofs.Common.{◌≡◌, ◌≤◌, ◌-◌, ◌++◌}
use Rattle.office_script.specs.Printing.{orders_to}
use Rattle.office_script.proofs.report.push_all_orders.Given as goal

abbrev pub invariant-loop-number : goal.invariant-loop-number
invariant-loop-number l = record {
  text : l.out.items ≡ l.fn.out.items ++ orders_to l.fn.keeper.0.settings l.number;
  same : l.keeper.0 ≡ l.fn.keeper.0;
  bound : l.number ≤ l.last;
}

abbrev pub decreases-loop-number : goal.decreases-loop-number
decreases-loop-number l = l.last - l.number
