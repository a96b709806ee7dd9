use Rattle.std.proofs.Common.{List}
use Rattle.run_beat.specs.Acts.{Act}
use Rattle.office_net.proofs.Querying.{told_err}
use Rattle.run_callers.specs.Callers.{session_of}
use Rattle.run_callers.specs.Sessions.{Moves}
use Rattle.run_deeds.proofs.Passing.{office_then, part_acting, part_still}
use Rattle.run_callers.proofs.caller.Caller.write_on.Goals as goal

pub returns-in_err-has_shown : goal.returns-in_err-has_shown
returns-in_err-has_shown g c =
    let acted = λ (acts : List Act). g.S.Sockets.acts c.args.sockets.now acts c.args.sockets.now in
    let went = c.in_err-has_shown.ensures.went c.args.source in
    told_err c.from_residual.result _ _ c.from_residual.ensures.0 (
      went.0,
      office_then Moves c.args.source c.args.office.now c.show.new.office c.show.new.office acted (session_of c.args.self.now) went.0 went.0 went.1
          (part_still Moves c.args.source c.show.new.office acted went.0 (g.S.Sockets.rests c.args.sockets.now)),
    )

pub returns-then-is_empty : goal.returns-then-is_empty
returns-then-is_empty g c =
    let acted = λ (acts : List Act). g.S.Sockets.acts c.args.sockets.now acts c.args.sockets.now in
    let shown = session_of c.show.new.self in
    office_then Moves c.args.source c.args.office.now c.show.new.office c.show.new.office acted (session_of c.args.self.now) shown shown (c.in_ok-has_shown.ensures.went c.args.source)
    (part_still Moves c.args.source c.show.new.office acted shown (g.S.Sockets.rests c.args.sockets.now))

pub returns-in_err-has_written : goal.returns-in_err-has_written
returns-in_err-has_written g c =
    let acted = λ (acts : List Act). g.S.Sockets.acts c.args.sockets.now acts c.write.new.sockets in
    let shown = session_of c.show.new.self in
    let left = c.in_err-has_written.ensures in
    told_err c.from_residual-in_err-has_written.result _ _ c.from_residual-in_err-has_written.ensures.0 (
      left.0,
      office_then Moves c.args.source c.args.office.now c.show.new.office c.show.new.office acted (session_of c.args.self.now) shown left.0 (c.in_ok-has_shown.ensures.went c.args.source)
          (part_acting Moves c.args.source c.show.new.office acted shown left.0 left.1),
    )

pub returns-then-has_shown-2 : goal.returns-then-has_shown-2
returns-then-has_shown-2 g c =
    let acted = λ (acts : List Act). g.S.Sockets.acts c.args.sockets.now acts c.write.new.sockets in
    let shown = session_of c.show.new.self in
    office_then Moves c.args.source c.args.office.now c.show.new.office c.show.new.office acted (session_of c.args.self.now) shown (session_of c.write.new.self) (c.in_ok-has_shown.ensures.went c.args.source)
    (part_acting Moves c.args.source c.show.new.office acted shown (session_of c.write.new.self) c.in_ok-has_written.ensures)

pub returns-else-has_shown-2 : goal.returns-else-has_shown-2
returns-else-has_shown-2 g c =
    let acted = λ (acts : List Act). g.S.Sockets.acts c.args.sockets.now acts c.write.new.sockets in
    let shown = session_of c.show.new.self in
    office_then Moves c.args.source c.args.office.now c.show.new.office c.show.new.office acted (session_of c.args.self.now) shown (session_of c.write.new.self) (c.in_ok-has_shown.ensures.went c.args.source)
    (part_acting Moves c.args.source c.show.new.office acted shown (session_of c.write.new.self) c.in_ok-has_written.ensures)
