use Rattle.std.proofs.Common.{refl}
use Rattle.run_lines.specs.Lines.{terms_of, source_of, wire_at}
use Rattle.run_lines.specs.Wires.{WireMoves}
use Rattle.run_deeds.proofs.Passing.{acting_still}
use Rattle.run_lines.proofs.line.Line.write.Goals as goal

pub returns-then-le : goal.returns-then-le
returns-then-le g c =
    let line = c.args.self.now in (
      record { place = refl; name = refl; most = refl; from = refl },
      (
        wire_at line,
        acting_still (WireMoves (terms_of line)) (source_of line) (λ acts. g.S.Sockets.acts c.args.sockets.now acts c.write.new.self) (wire_at line) c.in-Nothing.ensures.acts,
        tt {0},
      ),
    )

pub returns-in-Failed : goal.returns-in-Failed
returns-in-Failed g c =
    let line = c.args.self.now in (
      record { place = refl; name = refl; most = refl; from = refl },
      (
        wire_at line,
        acting_still (WireMoves (terms_of line)) (source_of line) (λ acts. g.S.Sockets.acts c.args.sockets.now acts c.write.new.self) (wire_at line) c.in-Failed.ensures.acts,
        tt {0},
      ),
    )
