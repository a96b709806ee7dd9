use Rattle.std.proofs.Common.{◌≡◌}
use Rattle.run_lines.specs.Links.{wire_of}
use Rattle.run_lines.specs.Wires.{GivesUp}
use Rattle.run_lines.proofs.link.Link.give_up_late.Given as goal

abbrev pub invariant-loop : goal.invariant-loop
invariant-loop l = GivesUp (wire_of l.fn.self) (wire_of l.self) × (l.stations.line ≡ l.fn.stations.line)
