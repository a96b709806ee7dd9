use Rattle.std.proofs.Common.{◌≡◌, Ok, [], refl}
use Rattle.run_lines.proofs.Lines.{tends_kept, tends_next}
use Rattle.run_lines.proofs.line.Line.go_on_asking.Goals as goal

pub returns-in_err-wake : goal.returns-in_err-wake
returns-in_err-wake g c =
    tends_kept c.from_residual.result c.args.self.now c.wake.new.self c.args.office.now c.wake.new.office (λ acts. acts ≡ []) refl c.wake.ensures.keeps c.wake.ensures.along

pub returns : goal.returns
returns g c =
    tends_next (tt {0}) c.ask.result c.args.self.now c.wake.new.self c.ask.new.self c.args.office.now c.wake.new.office c.ask.new.office
    (tends_kept (Ok (tt {0})) c.args.self.now c.wake.new.self c.args.office.now c.wake.new.office (λ acts. acts ≡ []) refl c.wake.ensures.keeps c.wake.ensures.along) c.ask.ensures
