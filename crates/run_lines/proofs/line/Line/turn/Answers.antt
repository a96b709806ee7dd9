use Rattle.std.proofs.Common.{Bool, inr, ◌∙◌}
use Rattle.run_lines.specs.Lines.{wire_at}
use Rattle.run_lines.proofs.Lines.{begins_before, keeps_state, one_of, one_then, state_shown, turned_lost, turned_so}
use Rattle.run_lines.proofs.Wires.{shown_refused}
use Rattle.run_lines.specs.Times.{slot_in}
use Rattle.run_lines.proofs.line.Line.turn.Goals as goal

pub returns-in-Lost-clause-lined : goal.returns-in-Lost-clause-lined
returns-in-Lost-clause-lined g c =
    let line = c.args.self.now in
    let old = c.args.sockets.now in
    let acted = c.act-acted.new in
    let told = c.note.new in
    let lost = c.lose.new in
    (turned_lost line told.self lost.self c.args.office.now acted.office (λ acts. g.S.Sockets.acts old acts acted.sockets) (λ acts. g.S.Sockets.acts acted.sockets acts lost.sockets)
    (λ acts. g.S.Sockets.acts old acts lost.sockets) c.act-acted.ensures.goes.1.0 (g.S.Sockets.joins old acted.sockets lost.sockets)
    (one_then line acted.self told.self c.act-acted.ensures.goes.0 (one_of acted.self told.self c.note.ensures.0))
    (record { place = c.lose.ensures.same.place; name = c.lose.ensures.same.name; most = c.lose.ensures.same.most; from = c.lose.ensures.same.from })
    (c.note.ensures.0.from ∙ c.act-acted.ensures.goes.1.2) c.lose.ensures.down c.act-acted.ensures.goes.1.1 c.lose.ensures.acts).1

pub returns-in-Refused-clause-lined : goal.returns-in-Refused-clause-lined
returns-in-Refused-clause-lined g c =
    let line = c.args.self.now in
    let acted = c.act-acted.new in
    let told = c.note.new in
    let refused = c.refuse.new in
    let state = c.act-acted.ensures.goes.1.0 in
    (turned_so line told.self refused.self c.args.office.now acted.office (λ acts. g.S.Sockets.acts c.args.sockets.now acts acted.sockets) state
    (one_then line acted.self told.self c.act-acted.ensures.goes.0 (one_of acted.self told.self c.note.ensures.0))
    (record { place = c.refuse.ensures.same.place; name = c.refuse.ensures.same.name; most = c.refuse.ensures.same.most; from = c.refuse.ensures.same.from }) c.act-acted.ensures.goes.1.1
    (keeps_state acted.self told.self c.note.ensures.0 c.note.ensures.1 ∙ state_shown acted.self state c.act-acted.ensures.goes.1.2
    (shown_refused Bool c.act-acted.result c.in-Err.stop c.in-Refused.fault state.wire (wire_at acted.self) c.in-Err.is c.in-Refused.is c.act-acted.ensures.goes.1.3))
    (inr c.refuse.ensures.rested)).1

pub returns-in-Ok-clause-by_clock : goal.returns-in-Ok-clause-by_clock
returns-in-Ok-clause-by_clock g c =
    begins_before (slot_in c.args.times) c.args.self.now c.act-acted.new.self c.note.new.self c.act-acted.ensures.by_clock c.note.ensures.0.from

pub returns-in-Lost-clause-by_clock : goal.returns-in-Lost-clause-by_clock
returns-in-Lost-clause-by_clock g c =
    begins_before (slot_in c.args.times) c.args.self.now c.act-acted.new.self c.lose.new.self c.act-acted.ensures.by_clock (c.lose.ensures.same.from ∙ c.note.ensures.0.from)

pub returns-in-Refused-clause-by_clock : goal.returns-in-Refused-clause-by_clock
returns-in-Refused-clause-by_clock g c =
    begins_before (slot_in c.args.times) c.args.self.now c.act-acted.new.self c.refuse.new.self c.act-acted.ensures.by_clock (c.refuse.ensures.same.from ∙ c.note.ensures.0.from)

pub returns-in-Ahead-clause-by_clock : goal.returns-in-Ahead-clause-by_clock
returns-in-Ahead-clause-by_clock g c =
    begins_before (slot_in c.args.times) c.args.self.now c.act-acted.new.self c.note.new.self c.act-acted.ensures.by_clock c.note.ensures.0.from
