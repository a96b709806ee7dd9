use Rattle.std.proofs.Common.{◌≡◌, false, Ok, [], refl}
use Rattle.office_core.proofs.Proceeding.{along_still}
use Rattle.run_lines.proofs.Lines.{advances_of, begins_chosen, begins_none, tends_kept}
use Rattle.run_lines.specs.Times.{slot_in}
use Rattle.run_lines.proofs.line.Line.start.Goals as goal

pub returns-in_default-clause-goes : goal.returns-in_default-clause-goes
returns-in_default-clause-goes g c =
    let line = c.args.self.now in
    let chosen = c.choose.new.self in
    let office = c.args.office.now in
    advances_of (Ok false) line chosen office office (λ acts. acts ≡ []) (tends_kept (Ok false) line chosen office office (λ acts. acts ≡ []) refl c.choose.ensures.keeps (along_still office))

pub returns-in_default-clause-by_clock : goal.returns-in_default-clause-by_clock
returns-in_default-clause-by_clock g c = begins_none (slot_in c.args.times) c.args.self.now c.choose.new.self c.choose.ensures.keeps.0.from

pub returns-in_err-begin_round-clause-by_clock : goal.returns-in_err-begin_round-clause-by_clock
returns-in_err-begin_round-clause-by_clock g c =
    begins_chosen (slot_in c.args.times) c.args.self.now c.choose.new.self c.begin_round.new.self c.in-Some.slot c.choose.ensures.keeps.0.from c.in-Some.ensures.by_clock
    c.begin_round.ensures.begins

pub returns-clause-by_clock : goal.returns-clause-by_clock
returns-clause-by_clock g c =
    begins_chosen (slot_in c.args.times) c.args.self.now c.choose.new.self c.begin_round.new.self c.in-Some.slot c.choose.ensures.keeps.0.from c.in-Some.ensures.by_clock
    c.begin_round.ensures.begins
