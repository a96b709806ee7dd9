use Rattle.std.proofs.Common.{Some, sym}
use Rattle.run_lines.proofs.Wires.{asked_none, then_asked}
use Rattle.run_lines.proofs.round.Progress.asked_among.Goals as goal

pub returns : goal.returns
returns g c =
    then_asked c.args.conn (Some c.args.slot) c.args.window.now c.args.office.now c.next_order.new.office c.next_read.new.office c.next_read.result
    (asked_none c.args.conn (Some c.args.slot) c.args.window.now c.args.office.now c.next_order.new.office c.in_ok-order.order (sym c.if-is_some.ensures) (c.in_ok-order.ensures c.args.slot))
    c.next_read.ensures
