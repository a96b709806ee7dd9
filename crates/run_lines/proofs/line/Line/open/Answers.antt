use Rattle.std.proofs.Common.{◌∙◌, refl}
use Rattle.run_lines.specs.Lines.{wire_at}
use Rattle.run_lines.specs.Wires.{Up, fresh}
use Rattle.run_lines.proofs.Lines.{opened_so, unopened_so}
use Rattle.run_lines.proofs.line.Line.open.Goals as goal

pub returns-in-Err : goal.returns-in-Err
returns-in-Err g c =
    let line = c.args.self.now in (
      record { place = refl; name = refl; most = refl; from = refl },
      (wire_at line, unopened_so line c.args.office.now c.open_line.new.office c.line.result.now c.line.ensures c.requires c.in-Err.ensures.made, tt {0}),
    )

pub returns-then-not-is_of_answers : goal.returns-then-not-is_of_answers
returns-then-not-is_of_answers g c =
    let line = c.args.self.now in (
      record { place = c.tell_up.ensures.0.place; name = c.tell_up.ensures.0.name; most = c.tell_up.ensures.0.most; from = c.tell_up.ensures.0.from ∙ c.open.ensures.begins },
      (
        Up (fresh c.in-Ok.conn),
        opened_so line c.args.office.now c.open_line.new.office c.in-Ok.conn c.line.result.now c.line.ensures c.requires c.in-Ok.ensures.made,
        c.tell_up.ensures.1 ∙ c.new.ensures,
      ),
    )

pub returns-else-not-is_of_answers : goal.returns-else-not-is_of_answers
returns-else-not-is_of_answers g c =
    let line = c.args.self.now in (
      record { place = refl; name = refl; most = refl; from = c.open.ensures.begins },
      (
        Up (fresh c.in-Ok.conn),
        opened_so line c.args.office.now c.open_line.new.office c.in-Ok.conn c.line.result.now c.line.ensures c.requires c.in-Ok.ensures.made,
        c.new.ensures,
      ),
    )
