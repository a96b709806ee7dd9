use Rattle.std.proofs.Common.{List}
use Rattle.run_beat.specs.Acts.{Act}
use Rattle.run_callers.specs.Callers.{session_of}
use Rattle.run_callers.specs.Sessions.{Moves}
use Rattle.run_deeds.proofs.Passing.{acting_told, part_still}
use Rattle.run_callers.proofs.caller.Caller.go_on.Goals as goal

pub returns-then-le : goal.returns-then-le
returns-then-le g c =
    (_, part_still Moves c.args.source c.args.office.now (λ acts. g.S.Sockets.acts c.args.sockets.now acts c.args.sockets.now) (session_of c.args.self.now) (g.S.Sockets.rests c.args.sockets.now))

pub returns-in-Closing : goal.returns-in-Closing
returns-in-Closing g c =
    acting_told Moves c.args.source c.args.office.now (λ (acts : List Act). g.S.Sockets.acts c.args.sockets.now acts c.drop_one.new.sockets) (session_of c.args.self.now) (session_of c.args.self.now)
    c.drop_one.result c.drop_one.ensures
