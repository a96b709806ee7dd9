use Rattle.office_core.proofs.Proceeding.{along_still, along_then}
use Rattle.run_lines.proofs.ahead.farthest.Goals as goal

pub loop-place-init : goal.loop-place-init
loop-place-init g c = along_still c.args.office.now

pub loop-place-preserved : goal.loop-place-preserved
loop-place-preserved g c = along_then c.args.office.now c.loop-place.office c.ahead_at.new.office c.loop-place.invariant c.ahead_at.ensures

pub returns-in_err-later : goal.returns-in_err-later
returns-in_err-later g c = along_then c.args.office.now c.loop-place.office c.ahead_at.new.office c.loop-place.invariant c.ahead_at.ensures

pub returns : goal.returns
returns g c = c.loop-place.invariant
