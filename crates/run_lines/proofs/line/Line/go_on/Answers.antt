use Rattle.std.proofs.Common.{◌≡◌, Bool, Err, Ok, [], ◌∙◌}
use Rattle.run_lines.proofs.Lines.{advances_after, advances_of, advances_on, advances_then, begins_before, begins_behind, begins_none, tends_behind, tends_handled, tends_on}
use Rattle.run_lines.specs.Times.{slot_in}
use Rattle.run_lines.proofs.line.Line.go_on.Goals as goal

pub returns-in_err-has_read-clause-goes : goal.returns-in_err-has_read-clause-goes
returns-in_err-has_read-clause-goes g c =
    let told = c.from_residual.result in
    let read = c.receive.new in
    advances_of told c.args.self.now read.self c.args.office.now read.office (λ acts. g.S.Sockets.acts c.args.sockets.now acts read.sockets)
    (tends_behind told c.args.self.now c.note_slot.new.self read.self c.args.office.now read.office (λ acts. g.S.Sockets.acts c.args.sockets.now acts read.sockets) c.note_slot.ensures
    (tends_on Bool _ c.in_err-has_read.field-0.0 told c.note_slot.new.self read.self c.args.office.now read.office (λ acts. g.S.Sockets.acts c.args.sockets.now acts read.sockets)
    c.from_residual.ensures.0 c.from_residual.ensures.1 c.in_err-has_read.ensures))

pub returns-in_err-poll-clause-goes : goal.returns-in_err-poll-clause-goes
returns-in_err-poll-clause-goes g c =
    let told = c.from_residual-in_err-poll.result in
    let read = c.receive.new in
    let polled = c.poll.new in
    advances_after c.in_ok-has_read.has_read told c.args.self.now read.self polled.self c.args.office.now read.office polled.office
    (λ acts. g.S.Sockets.acts c.args.sockets.now acts read.sockets)
    (advances_of (Ok c.in_ok-has_read.has_read) c.args.self.now read.self c.args.office.now read.office (λ acts. g.S.Sockets.acts c.args.sockets.now acts read.sockets)
    (tends_behind (Ok c.in_ok-has_read.has_read) c.args.self.now c.note_slot.new.self read.self c.args.office.now read.office (λ acts. g.S.Sockets.acts c.args.sockets.now acts read.sockets)
    c.note_slot.ensures c.in_ok-has_read.ensures))
    (advances_on (Unit {0}) _ c.in_err-poll.field-0.0 told read.self polled.self read.office polled.office (λ acts. acts ≡ []) c.from_residual-in_err-poll.ensures.0
    c.from_residual-in_err-poll.ensures.1 c.in_err-poll.ensures.goes)

pub returns-in_err-has_written-clause-goes : goal.returns-in_err-has_written-clause-goes
returns-in_err-has_written-clause-goes g c =
    let told = c.from_residual-in_err-has_written.result in
    let stop = c.in_err-has_written.field-0.0 in
    let line = c.args.self.now in
    let office = c.args.office.now in
    let old = c.args.sockets.now in
    let read = c.receive.new in
    let polled = c.poll.new in
    let written = c.write.new in
    advances_then (tt {0}) told line polled.self written.self office polled.office polled.office (λ acts. g.S.Sockets.acts old acts read.sockets)
    (λ acts. g.S.Sockets.acts read.sockets acts written.sockets) (λ acts. g.S.Sockets.acts old acts written.sockets) (g.S.Sockets.joins old read.sockets written.sockets)
    (advances_after c.in_ok-has_read.has_read (Ok (tt {0})) line read.self polled.self office read.office polled.office (λ acts. g.S.Sockets.acts old acts read.sockets)
    (advances_of (Ok c.in_ok-has_read.has_read) line read.self office read.office (λ acts. g.S.Sockets.acts old acts read.sockets)
    (tends_behind (Ok c.in_ok-has_read.has_read) line c.note_slot.new.self read.self office read.office (λ acts. g.S.Sockets.acts old acts read.sockets) c.note_slot.ensures
    c.in_ok-has_read.ensures)) c.in_ok-poll.ensures.goes)
    (advances_of told polled.self written.self polled.office polled.office (λ acts. g.S.Sockets.acts read.sockets acts written.sockets)
    (tends_on Bool _ stop told polled.self written.self polled.office polled.office (λ acts. g.S.Sockets.acts read.sockets acts written.sockets) c.from_residual-in_err-has_written.ensures.0
    c.from_residual-in_err-has_written.ensures.1
    (tends_handled {T = Bool} (Err stop) polled.self written.self polled.office (λ acts. g.S.Sockets.acts read.sockets acts written.sockets) c.in_err-has_written.ensures)))

pub returns-clause-goes : goal.returns-clause-goes
returns-clause-goes g c =
    let line = c.args.self.now in
    let office = c.args.office.now in
    let old = c.args.sockets.now in
    let read = c.receive.new in
    let polled = c.poll.new in
    let written = c.write.new in
    let told = Ok c.in_ok-has_written.has_written in
    advances_then (tt {0}) told line polled.self written.self office polled.office polled.office (λ acts. g.S.Sockets.acts old acts read.sockets)
    (λ acts. g.S.Sockets.acts read.sockets acts written.sockets) (λ acts. g.S.Sockets.acts old acts written.sockets) (g.S.Sockets.joins old read.sockets written.sockets)
    (advances_after c.in_ok-has_read.has_read (Ok (tt {0})) line read.self polled.self office read.office polled.office (λ acts. g.S.Sockets.acts old acts read.sockets)
    (advances_of (Ok c.in_ok-has_read.has_read) line read.self office read.office (λ acts. g.S.Sockets.acts old acts read.sockets)
    (tends_behind (Ok c.in_ok-has_read.has_read) line c.note_slot.new.self read.self office read.office (λ acts. g.S.Sockets.acts old acts read.sockets) c.note_slot.ensures
    c.in_ok-has_read.ensures)) c.in_ok-poll.ensures.goes)
    (advances_of told polled.self written.self polled.office polled.office (λ acts. g.S.Sockets.acts read.sockets acts written.sockets)
    (tends_handled told polled.self written.self polled.office (λ acts. g.S.Sockets.acts read.sockets acts written.sockets) c.in_ok-has_written.ensures))

pub returns-in_err-has_read-clause-by_clock : goal.returns-in_err-has_read-clause-by_clock
returns-in_err-has_read-clause-by_clock g c = begins_none (slot_in c.args.times) c.args.self.now c.receive.new.self (c.receive.ensures.0.from ∙ c.note_slot.ensures.0.from)

pub returns-in_err-poll-clause-by_clock : goal.returns-in_err-poll-clause-by_clock
returns-in_err-poll-clause-by_clock g c =
    begins_behind (slot_in c.args.times) c.args.self.now c.receive.new.self c.poll.new.self (c.receive.ensures.0.from ∙ c.note_slot.ensures.0.from) c.poll.ensures.by_clock

pub returns-in_err-has_written-clause-by_clock : goal.returns-in_err-has_written-clause-by_clock
returns-in_err-has_written-clause-by_clock g c =
    begins_before (slot_in c.args.times) c.args.self.now c.poll.new.self c.write.new.self
    (begins_behind (slot_in c.args.times) c.args.self.now c.receive.new.self c.poll.new.self (c.receive.ensures.0.from ∙ c.note_slot.ensures.0.from) c.poll.ensures.by_clock)
    c.write.ensures.0.from

pub returns-clause-by_clock : goal.returns-clause-by_clock
returns-clause-by_clock g c =
    begins_before (slot_in c.args.times) c.args.self.now c.poll.new.self c.write.new.self
    (begins_behind (slot_in c.args.times) c.args.self.now c.receive.new.self c.poll.new.self (c.receive.ensures.0.from ∙ c.note_slot.ensures.0.from) c.poll.ensures.by_clock)
    c.write.ensures.0.from
