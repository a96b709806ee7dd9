use Rattle.office_core.proofs.Proceeding.{along_then}
use Rattle.run_callers.proofs.showing.Showing.push_rows.Goals as goal

pub returns-in_err-push_row : goal.returns-in_err-push_row
returns-in_err-push_row g c = along_then c.args.office.now c.loop-at.office c.push_row.new.office c.loop-at.invariant c.push_row.ensures

pub loop-at-preserved : goal.loop-at-preserved
loop-at-preserved g c = along_then c.args.office.now c.loop-at.office c.push_row.new.office c.loop-at.invariant c.push_row.ensures
