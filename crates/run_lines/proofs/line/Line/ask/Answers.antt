use Rattle.std.proofs.Common.{◌≡◌, [], refl}
use Rattle.run_lines.specs.Lines.{terms_of, source_of}
use Rattle.run_lines.proofs.Lines.{over_link}
use Rattle.run_lines.proofs.line.Line.ask.Goals as goal

pub returns-in-Up : goal.returns-in-Up
returns-in-Up g c =
    let line = c.args.self.now in
    let works = c.ask.ensures (terms_of line) (source_of line) refl in
    (record { place = refl; name = refl; most = refl; from = refl }, (works.0, over_link line c.args.office.now c.ask.new.office (λ acts. acts ≡ []) c.in-Up.link works.0 c.in-Up.is works.1, works.2))
