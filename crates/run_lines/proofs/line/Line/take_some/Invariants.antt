use Rattle.std.proofs.Common.{◌≡◌, Ok, []}
use Rattle.run_lines.specs.Lines.{Tends}
use Rattle.run_lines.proofs.line.Line.take_some.Given as goal

abbrev pub invariant-loop : goal.invariant-loop
invariant-loop g l = Tends {T = Unit {0}} (Ok (tt {0})) l.fn.self l.self l.fn.office l.office (λ acts. acts ≡ [])
