use Rattle.std.proofs.Common.{Some, sym}
use Rattle.run_lines.proofs.Wires.{asked_none, then_asked}
use Rattle.run_lines.proofs.round.Progress.next.Goals as goal

pub returns : goal.returns
returns g c =
    then_asked c.args.conn (Some c.args.slot) c.args.window.now c.args.office.now c.next_asked.new.office c.next_asked-2.new.office c.next_asked-2.result
    (asked_none c.args.conn (Some c.args.slot) c.args.window.now c.args.office.now c.next_asked.new.office c.in_ok-asked.asked (sym c.if-is_some.ensures) c.in_ok-asked.ensures)
    c.next_asked-2.ensures
