use Rattle.std.proofs.Common.{◌≡◌, Ok, [], refl, ◌∙◌}
use Rattle.run_lines.proofs.Lines.{advances_next, advances_of, begins_behind, begins_none, tends_kept, tends_next, tends_on}
use Rattle.run_lines.specs.Times.{slot_in}
use Rattle.run_lines.proofs.line.Line.poll.Goals as goal

pub returns-in_err-go_on_round-clause-goes : goal.returns-in_err-go_on_round-clause-goes
returns-in_err-go_on_round-clause-goes g c =
    advances_of c.from_residual.result c.args.self.now c.go_on_round.new.self c.args.office.now c.go_on_round.new.office (λ acts. acts ≡ [])
    (tends_on (Unit {0}) _ c.in_err-go_on_round.field-0.0 c.from_residual.result c.args.self.now c.go_on_round.new.self c.args.office.now c.go_on_round.new.office (λ acts. acts ≡ [])
    c.from_residual.ensures.0 c.from_residual.ensures.1 c.in_err-go_on_round.ensures)

pub returns-in_err-look_ahead-clause-goes : goal.returns-in_err-look_ahead-clause-goes
returns-in_err-look_ahead-clause-goes g c =
    let line = c.args.self.now in
    let gone = c.go_on_round.new in
    let looked = c.look_ahead.new in
    advances_of c.from_residual-in_err-look_ahead.result line looked.self c.args.office.now looked.office (λ acts. acts ≡ [])
    (tends_next (tt {0}) c.from_residual-in_err-look_ahead.result line gone.self looked.self c.args.office.now gone.office looked.office c.in_ok-go_on_round.ensures
    (tends_kept c.from_residual-in_err-look_ahead.result gone.self looked.self gone.office looked.office (λ acts. acts ≡ []) refl c.look_ahead.ensures.keeps c.look_ahead.ensures.along))

pub returns-clause-goes : goal.returns-clause-goes
returns-clause-goes g c =
    let line = c.args.self.now in
    let gone = c.go_on_round.new in
    let looked = c.look_ahead.new in
    let asked = c.begin_asking.new in
    advances_next (tt {0}) c.begin_asking.result line looked.self asked.self c.args.office.now looked.office asked.office
    (advances_of {T = Unit {0}} (Ok (tt {0})) line looked.self c.args.office.now looked.office (λ acts. acts ≡ [])
    (tends_next (tt {0}) (Ok (tt {0})) line gone.self looked.self c.args.office.now gone.office looked.office c.in_ok-go_on_round.ensures
    (tends_kept (Ok (tt {0})) gone.self looked.self gone.office looked.office (λ acts. acts ≡ []) refl c.look_ahead.ensures.keeps c.look_ahead.ensures.along))) c.begin_asking.ensures.goes

pub returns-in_err-go_on_round-clause-by_clock : goal.returns-in_err-go_on_round-clause-by_clock
returns-in_err-go_on_round-clause-by_clock g c = begins_none (slot_in c.args.times) c.args.self.now c.go_on_round.new.self c.go_on_round.ensures.0.from

pub returns-in_err-look_ahead-clause-by_clock : goal.returns-in_err-look_ahead-clause-by_clock
returns-in_err-look_ahead-clause-by_clock g c =
    begins_none (slot_in c.args.times) c.args.self.now c.look_ahead.new.self (c.look_ahead.ensures.keeps.0.from ∙ c.go_on_round.ensures.0.from)

pub returns-clause-by_clock : goal.returns-clause-by_clock
returns-clause-by_clock g c =
    begins_behind (slot_in c.args.times) c.args.self.now c.look_ahead.new.self c.begin_asking.new.self (c.look_ahead.ensures.keeps.0.from ∙ c.go_on_round.ensures.0.from)
    c.begin_asking.ensures.by_clock
