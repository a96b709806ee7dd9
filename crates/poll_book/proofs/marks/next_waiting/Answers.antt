use Rattle.std.proofs.Common.{◌≡◌, length, ◌∙◌, sym, ap, subst, arith}
use Rattle.poll_book.specs.declared.rows.SettingRow.{SettingRow}
use Rattle.poll_book.specs.Orders.{as_setting, waits_on}
use Rattle.poll_book.specs.Marks.{IsPast}
use Rattle.poll_book.proofs.Marked.{oldest_here, oldest_none}
use Rattle.poll_book.proofs.marks.next_waiting.Goals as goal

pub returns-then-waits_on-clause-here : goal.returns-then-waits_on-clause-here
returns-then-waits_on-clause-here c =
    let points = c.args.points.now in
    let device = c.args.device.now in
    let waits = ap (λ (row : SettingRow). waits_on points device (as_setting row)) c.index-orders-place.is in
    oldest_here points device c.args.orders.now c.loop-place.place c.index-orders-place.result c.loop-place.invariant (omega arith)
    (sym waits ∙ sym c.waits_on.ensures ∙ c.if-waits_on.true)

pub returns-clause-here : goal.returns-clause-here
returns-clause-here c =
    let orders = c.args.orders.now in
    let at_end : c.loop-place.place ≡ length orders = omega arith in
    oldest_none c.args.points.now c.args.device.now orders (length orders) (subst (IsPast c.args.points.now orders c.args.device.now) at_end c.loop-place.invariant) (omega arith)
