use Rattle.std.proofs.Common.{◌≡◌, []}
use Rattle.run_beat.specs.declared.sockets.Source.{Source}
use Rattle.run_lines.specs.Links.{wire_of}
use Rattle.run_lines.specs.Wires.{Terms, Wired}
use Rattle.run_lines.proofs.link.Link.ask.Given as goal

abbrev pub invariant-loop : goal.invariant-loop
invariant-loop g l = (terms : Terms) (source : Source) → terms.most ≡ l.fn.most → Wired terms source l.fn.office l.office (λ acts. acts ≡ []) (wire_of l.fn.self) (wire_of l.self)
