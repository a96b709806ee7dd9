use Rattle.office_core.proofs.Proceeding.{along_then}
use Rattle.run_callers.proofs.showing.Showing.push_one_of.Goals as goal

pub returns-in_err-push_curve : goal.returns-in_err-push_curve
returns-in_err-push_curve g c = along_then c.args.office.now c.loop-at.office c.push_curve.new.office c.loop-at.invariant c.push_curve.ensures

pub returns-then-is_shown : goal.returns-then-is_shown
returns-then-is_shown g c = along_then c.args.office.now c.loop-at.office c.push_curve.new.office c.loop-at.invariant c.push_curve.ensures
