use Rattle.office_core.proofs.Proceeding.{along_then}
use Rattle.run_callers.proofs.showing.Showing.push_curve.Goals as goal

pub returns-in_err-rows : goal.returns-in_err-rows
returns-in_err-rows g c = along_then c.args.office.now c.with_both.new.office c.curve.new.office c.with_both.ensures.along c.curve.ensures

pub returns-in_err-push_curve : goal.returns-in_err-push_curve
returns-in_err-push_curve g c = along_then c.args.office.now c.with_both.new.office c.curve.new.office c.with_both.ensures.along c.curve.ensures

pub returns : goal.returns
returns g c = along_then c.args.office.now c.with_both.new.office c.curve.new.office c.with_both.ensures.along c.curve.ensures
