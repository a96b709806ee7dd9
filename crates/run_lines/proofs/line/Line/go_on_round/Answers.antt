use Rattle.std.proofs.Common.{◌≡◌, Ok, []}
use Rattle.run_lines.proofs.Lines.{tends_given, tends_next, tends_on, tends_settled}
use Rattle.run_lines.proofs.line.Line.go_on_round.Goals as goal

pub returns-in_err-go_on_asking : goal.returns-in_err-go_on_asking
returns-in_err-go_on_asking g c =
    let line = c.args.self.now in
    let office = c.args.office.now in
    tends_next (tt {0}) c.from_residual.result line c.give_up.new.self c.go_on_asking.new.self office office c.go_on_asking.new.office
    (tends_given line c.give_up.new.self office c.give_up.ensures.same c.give_up.ensures.given)
    (tends_on (Unit {0}) _ c.in_err-go_on_asking.field-0.0 c.from_residual.result c.give_up.new.self c.go_on_asking.new.self office c.go_on_asking.new.office (λ acts. acts ≡ [])
    c.from_residual.ensures.0 c.from_residual.ensures.1 c.in_err-go_on_asking.ensures)

pub returns : goal.returns
returns g c =
    let line = c.args.self.now in
    let office = c.args.office.now in
    let asked = c.go_on_asking.new.office in
    tends_next (tt {0}) c.settle.result line c.go_on_asking.new.self c.settle.new.self office asked asked
    (tends_next (tt {0}) (Ok (tt {0})) line c.give_up.new.self c.go_on_asking.new.self office office asked
    (tends_given line c.give_up.new.self office c.give_up.ensures.same c.give_up.ensures.given) c.in_ok-go_on_asking.ensures)
    (tends_settled c.settle.result c.go_on_asking.new.self c.settle.new.self asked c.settle.ensures.same c.settle.ensures.settles)
