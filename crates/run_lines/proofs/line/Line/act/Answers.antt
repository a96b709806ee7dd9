use Rattle.std.proofs.Common.{false, Ok, refl}
use Rattle.run_lines.specs.Lines.{source_of, terms_of, wire_at}
use Rattle.run_lines.specs.Wires.{WireMoves}
use Rattle.run_lines.proofs.Lines.{advances_of, begins_none, tends_silent}
use Rattle.run_deeds.proofs.Passing.{part_acting}
use Rattle.run_lines.specs.Times.{slot_in}
use Rattle.run_lines.proofs.line.Line.act.Goals as goal

pub returns-in-Down-clause-goes : goal.returns-in-Down-clause-goes
returns-in-Down-clause-goes g c =
    let line = c.args.self.now in
    let begun = c.begin.new in
    advances_of (Ok false) line begun.self c.args.office.now c.args.office.now (λ acts. g.S.Sockets.acts c.args.sockets.now acts begun.sockets) (
      c.begin.ensures.same,
      (
        wire_at begun.self,
        part_acting (WireMoves (terms_of line)) (source_of line) c.args.office.now (λ acts. g.S.Sockets.acts c.args.sockets.now acts begun.sockets) (wire_at line) (wire_at begun.self) c.begin.ensures.acts,
        refl,
      ),
    )

pub returns-in-Begun-clause-goes : goal.returns-in-Begun-clause-goes
returns-in-Begun-clause-goes g c =
    let line = c.args.self.now in
    let sockets = c.args.sockets.now in
    advances_of c.connect.result line c.connect.new.self c.args.office.now c.connect.new.office (λ acts. g.S.Sockets.acts sockets acts sockets)
    (tends_silent c.connect.result line c.connect.new.self c.args.office.now c.connect.new.office (λ acts. g.S.Sockets.acts sockets acts sockets) (g.S.Sockets.rests sockets) c.connect.ensures)

pub returns-in-Down-clause-by_clock : goal.returns-in-Down-clause-by_clock
returns-in-Down-clause-by_clock g c = begins_none (slot_in c.args.times) c.args.self.now c.begin.new.self c.begin.ensures.same.from

pub returns-in-Begun-clause-by_clock : goal.returns-in-Begun-clause-by_clock
returns-in-Begun-clause-by_clock g c = begins_none (slot_in c.args.times) c.args.self.now c.connect.new.self c.connect.ensures.0.from
