use Rattle.office_core.proofs.Proceeding.{along_then}
use Rattle.run_callers.proofs.showing.Showing.push_orders.Goals as goal

pub returns-in_err-order : goal.returns-in_err-order
returns-in_err-order g c = along_then c.args.office.now c.loop-at.office c.order_on.new.office c.loop-at.invariant c.order_on.ensures

pub returns-in_err-push_order : goal.returns-in_err-push_order
returns-in_err-push_order g c = along_then c.args.office.now c.loop-at.office c.order_on.new.office c.loop-at.invariant c.order_on.ensures

pub loop-at-preserved : goal.loop-at-preserved
loop-at-preserved g c = along_then c.args.office.now c.loop-at.office c.order_on.new.office c.loop-at.invariant c.order_on.ensures
