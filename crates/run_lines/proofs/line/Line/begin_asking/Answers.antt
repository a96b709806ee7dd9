use Rattle.std.proofs.Common.{◌≡◌, Bool, []}
use Rattle.run_lines.proofs.Lines.{advances_next, advances_of, advances_on, begins_before}
use Rattle.run_lines.specs.Times.{slot_in}
use Rattle.run_lines.proofs.line.Line.begin_asking.Goals as goal

pub returns-in_err-has_begun-clause-goes : goal.returns-in_err-has_begun-clause-goes
returns-in_err-has_begun-clause-goes g c =
    advances_on Bool _ c.in_err-has_begun.field-0.0 c.from_residual.result c.args.self.now c.start.new.self c.args.office.now c.start.new.office (λ acts. acts ≡ []) c.from_residual.ensures.0
    c.from_residual.ensures.1 c.in_err-has_begun.ensures.goes

pub returns-then-not-has_begun-clause-goes : goal.returns-then-not-has_begun-clause-goes
returns-then-not-has_begun-clause-goes g c = c.in_ok-has_begun.ensures.goes

pub returns-clause-goes : goal.returns-clause-goes
returns-clause-goes g c =
    advances_next c.in_ok-has_begun.has_begun c.ask.result c.args.self.now c.start.new.self c.ask.new.self c.args.office.now c.start.new.office c.ask.new.office c.in_ok-has_begun.ensures.goes
    (advances_of c.ask.result c.start.new.self c.ask.new.self c.start.new.office c.ask.new.office (λ acts. acts ≡ []) c.ask.ensures)

pub returns-clause-by_clock : goal.returns-clause-by_clock
returns-clause-by_clock g c = begins_before (slot_in c.args.times) c.args.self.now c.start.new.self c.ask.new.self c.start.ensures.by_clock c.ask.ensures.0.from
