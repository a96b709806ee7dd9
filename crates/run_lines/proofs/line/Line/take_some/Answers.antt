use Rattle.std.proofs.Common.{◌≡◌, Bool, Ok, [], refl}
use Rattle.run_lines.proofs.Lines.{tends_next, tends_on, tends_still}
use Rattle.run_lines.proofs.line.Line.take_some.Goals as goal

pub loop-init : goal.loop-init
loop-init g c = tends_still {T = Unit {0}} (Ok (tt {0})) c.args.self.now c.args.office.now (λ acts. acts ≡ []) refl

pub loop-preserved : goal.loop-preserved
loop-preserved g c = tends_next (tt {0}) (Ok (tt {0})) c.args.self.now c.loop.self c.take_one.new.self c.args.office.now c.loop.office c.take_one.new.office c.loop.invariant c.in_ok-may_go_on.ensures

pub returns-in_err-may_go_on : goal.returns-in_err-may_go_on
returns-in_err-may_go_on g c =
    tends_next (tt {0}) c.from_residual.result c.args.self.now c.loop.self c.take_one.new.self c.args.office.now c.loop.office c.take_one.new.office c.loop.invariant
    (tends_on Bool _ c.in_err-may_go_on.field-0.0 c.from_residual.result c.loop.self c.take_one.new.self c.loop.office c.take_one.new.office (λ acts. acts ≡ [])
    c.from_residual.ensures.0 c.from_residual.ensures.1 c.in_err-may_go_on.ensures)

pub returns-then-not-may_go_on : goal.returns-then-not-may_go_on
returns-then-not-may_go_on g c =
    tends_next (tt {0}) (Ok (tt {0})) c.args.self.now c.loop.self c.take_one.new.self c.args.office.now c.loop.office c.take_one.new.office c.loop.invariant c.in_ok-may_go_on.ensures

pub returns : goal.returns
returns g c = c.loop.invariant
