use Rattle.std.proofs.Common.{◌≡◌, ◌++◌, take}
use Rattle.std.specs.Prelude.{flat_map}
use Rattle.office_script.specs.Printing.{total_line}
use Rattle.office_script.proofs.report.push_all_totals.Given as goal

abbrev pub invariant-loop-known : goal.invariant-loop-known
invariant-loop-known l = record {
  text : l.out.items ≡ l.fn.out.items ++ flat_map (total_line l.fn.keeper.0.totals) (take l.known-index l.points);
  same : l.keeper.0 ≡ l.fn.keeper.0;
}
