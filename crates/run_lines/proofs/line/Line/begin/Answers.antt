use Rattle.run_beat.specs.declared.sockets.Source.TheVariants as source
use Rattle.run_lines.specs.Lines.{terms_of, wire_at}
use Rattle.run_lines.specs.Wires.{WireMoves}
use Rattle.run_deeds.proofs.Passing.{acting_still}
use Rattle.run_lines.proofs.line.Line.begin.Goals as goal

pub returns-then-not-is_due-clause-acts : goal.returns-then-not-is_due-clause-acts
returns-then-not-is_due-clause-acts g c =
    acting_still (WireMoves (terms_of c.args.self.now)) (source.Line c.args.self.now.place) (λ acts. g.S.Sockets.acts c.args.sockets.now acts c.args.sockets.now)
    (wire_at c.args.self.now) (g.S.Sockets.rests c.args.sockets.now)
