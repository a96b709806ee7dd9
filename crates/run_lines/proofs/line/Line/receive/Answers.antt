use Rattle.std.proofs.Common.{◌≡◌, Bool, Err, Ok, []}
use Rattle.run_lines.proofs.Lines.{tends_after, tends_handled, tends_on}
use Rattle.run_lines.proofs.line.Line.receive.Goals as goal

pub returns-in_err-has_come : goal.returns-in_err-has_come
returns-in_err-has_come g c =
    let line = c.args.self.now in
    let office = c.args.office.now in
    let stop = c.in_err-has_come.field-0.0 in
    tends_on Bool _ stop c.from_residual.result line c.read.new.self office office (λ acts. g.S.Sockets.acts c.args.sockets.now acts c.read.new.sockets) c.from_residual.ensures.0 c.from_residual.ensures.1
    (tends_handled {T = Bool} (Err stop) line c.read.new.self office (λ acts. g.S.Sockets.acts c.args.sockets.now acts c.read.new.sockets) c.in_err-has_come.ensures)

pub returns-in_err-take : goal.returns-in_err-take
returns-in_err-take g c =
    let line = c.args.self.now in
    let office = c.args.office.now in
    let stop = c.in_err-take.field-0.0 in
    let told = c.from_residual-in_err-take.result in
    tends_after c.in_ok-has_come.has_come told line c.read.new.self c.take.new.self office office c.take.new.office (λ acts. g.S.Sockets.acts c.args.sockets.now acts c.read.new.sockets)
    (tends_handled (Ok c.in_ok-has_come.has_come) line c.read.new.self office (λ acts. g.S.Sockets.acts c.args.sockets.now acts c.read.new.sockets) c.in_ok-has_come.ensures)
    (tends_on (Unit {0}) _ stop told c.read.new.self c.take.new.self office c.take.new.office (λ acts. acts ≡ []) c.from_residual-in_err-take.ensures.0 c.from_residual-in_err-take.ensures.1
    c.in_err-take.ensures)

pub returns-in_ok-take : goal.returns-in_ok-take
returns-in_ok-take g c =
    let line = c.args.self.now in
    let office = c.args.office.now in
    tends_after c.in_ok-has_come.has_come (Ok (tt {0})) line c.read.new.self c.take.new.self office office c.take.new.office (λ acts. g.S.Sockets.acts c.args.sockets.now acts c.read.new.sockets)
    (tends_handled (Ok c.in_ok-has_come.has_come) line c.read.new.self office (λ acts. g.S.Sockets.acts c.args.sockets.now acts c.read.new.sockets) c.in_ok-has_come.ensures) c.in_ok-take.ensures

pub returns-else-has_come : goal.returns-else-has_come
returns-else-has_come g c =
    tends_handled (Ok c.in_ok-has_come.has_come) c.args.self.now c.read.new.self c.args.office.now (λ acts. g.S.Sockets.acts c.args.sockets.now acts c.read.new.sockets) c.in_ok-has_come.ensures
