use Rattle.std.proofs.Common.{Some, sym}
use Rattle.office_core.proofs.Proceeding.{along_still, along_then}
use Rattle.office_net.proofs.Querying.{nothing_then_makes, nothing_then_misses, told_err}
use Rattle.run_lines.specs.Rounds.{number_for, query_of}
use Rattle.run_lines.specs.Wires.{Queries, SomeQuery}
use Rattle.run_lines.proofs.Wires.{asked_none}
use Rattle.run_lines.proofs.round.Progress.next_order.Goals as goal

pub loop-device-init : goal.loop-device-init
loop-device-init g c = along_still c.args.office.now

pub loop-device-preserved : goal.loop-device-preserved
loop-device-preserved g c =
    along_then c.args.office.now c.loop-device.office c.order_of.new.office c.loop-device.invariant
    (asked_none c.args.conn (Some 0) c.args.window.now c.loop-device.office c.order_of.new.office c.in_ok-asked.asked (sym c.if-is_some.ensures) (c.in_ok-asked.ensures 0))

pub returns-in_err-asked : goal.returns-in_err-asked
returns-in_err-asked g c = λ slot.
    told_err c.from_residual.result _ _ c.from_residual.ensures.0
    (nothing_then_misses (SomeQuery c.args.conn (Some slot) c.args.window.now) c.args.office.now c.loop-device.office c.order_of.new.office c.loop-device.invariant (c.in_err-asked.ensures slot))

pub returns-then-is_some : goal.returns-then-is_some
returns-then-is_some g c = λ slot.
    nothing_then_makes (Queries c.args.conn (Some slot) c.args.window.now (number_for c.in_ok-asked.asked)) c.args.office.now c.loop-device.office c.order_of.new.office
    (query_of c.in_ok-asked.asked) c.loop-device.invariant (c.in_ok-asked.ensures slot)
