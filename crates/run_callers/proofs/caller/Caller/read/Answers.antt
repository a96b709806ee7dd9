use Rattle.std.proofs.Common.{◌++◌, List, take}
use Rattle.run_beat.specs.Acts.{Act}
use Rattle.office_http.specs.Exchanges.{bytes_of}
use Rattle.run_callers.specs.Callers.{session_of}
use Rattle.run_callers.specs.Sessions.{Heard, Hearing, Moves}
use Rattle.run_callers.proofs.Callers.{heard, hears}
use Rattle.run_deeds.proofs.Passing.{part_still, then_office}
use Rattle.office_net.proofs.Querying.{told_err}
use Rattle.run_callers.proofs.caller.Caller.read.Goals as goal

pub returns-then-le : goal.returns-then-le
returns-then-le g c =
    (_, part_still Moves c.args.source c.args.office.now (λ acts. g.S.Sockets.acts c.args.sockets.now acts c.read.new.self) (session_of c.args.self.now) c.in-Nothing.ensures.acts)

pub returns-in-Failed : goal.returns-in-Failed
returns-in-Failed g c =
    (_, part_still Moves c.args.source c.args.office.now (λ acts. g.S.Sockets.acts c.args.sockets.now acts c.read.new.self) (session_of c.args.self.now) c.in-Failed.ensures.acts)

pub returns-in_err-end-in-Ended : goal.returns-in_err-end-in-Ended
returns-in_err-end-in-Ended g c =
    let acted = λ (acts : List Act). g.S.Sockets.acts c.args.sockets.now acts c.read.new.self in
    let came = c.in_err-end-in-Ended.ensures c.args.source in
    told_err c.from_residual.result _ _ c.from_residual.ensures.0 (
      came.0,
      then_office Moves c.args.source c.args.office.now c.args.office.now c.end.new.office acted (session_of c.args.self.now) (Heard (bytes_of c.args.self.now.exchange)) came.0
          (heard c.args.source c.args.office.now acted c.args.self.now c.requires c.in-Ended.ensures.acts) came.1,
    )

pub returns-in_ok-end-in-Ended : goal.returns-in_ok-end-in-Ended
returns-in_ok-end-in-Ended g c =
    let acted = λ (acts : List Act). g.S.Sockets.acts c.args.sockets.now acts c.read.new.self in
    then_office Moves c.args.source c.args.office.now c.args.office.now c.end.new.office acted (session_of c.args.self.now) (Heard (bytes_of c.args.self.now.exchange)) (session_of c.end.new.self)
    (heard c.args.source c.args.office.now acted c.args.self.now c.requires c.in-Ended.ensures.acts) (c.in_ok-end-in-Ended.ensures c.args.source)

pub returns-in_err-hear-in-Bytes : goal.returns-in_err-hear-in-Bytes
returns-in_err-hear-in-Bytes g c =
    let acted = λ (acts : List Act). g.S.Sockets.acts c.args.sockets.now acts c.read.new.self in
    let bytes = take c.in-Bytes.count c.read.new.piece in
    let came = c.in_err-hear-in-Bytes.ensures c.args.source in
    told_err c.from_residual-in_err-hear-in-Bytes.result _ _ c.from_residual-in_err-hear-in-Bytes.ensures.0 (
      came.0,
      then_office Moves c.args.source c.args.office.now c.args.office.now c.hear.new.office acted (session_of c.args.self.now) (Hearing (bytes_of c.args.self.now.exchange ++ bytes)) came.0
          (hears c.args.source c.args.office.now acted c.args.self.now c.requires bytes c.in-Bytes.ensures.acts) came.1,
    )

pub returns-in_ok-hear-in-Bytes : goal.returns-in_ok-hear-in-Bytes
returns-in_ok-hear-in-Bytes g c =
    let acted = λ (acts : List Act). g.S.Sockets.acts c.args.sockets.now acts c.read.new.self in
    let bytes = take c.in-Bytes.count c.read.new.piece in
    then_office Moves c.args.source c.args.office.now c.args.office.now c.hear.new.office acted (session_of c.args.self.now) (Hearing (bytes_of c.args.self.now.exchange ++ bytes)) (session_of c.hear.new.self)
    (hears c.args.source c.args.office.now acted c.args.self.now c.requires bytes c.in-Bytes.ensures.acts) (c.in_ok-hear-in-Bytes.ensures c.args.source)
