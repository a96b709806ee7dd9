use Rattle.std.proofs.Common.{ℕ, Option, Some, Err, Ok, subst, sym}
use Rattle.office_net.specs.Counting.{Learnt}
use Rattle.office_net.specs.Kinds.{IsOldest}
use Rattle.office_net.proofs.Querying.{nothing_misses, told_err}
use Rattle.run_lines.specs.Wires.{SomeQuery}
use Rattle.run_lines.proofs.Wires.{sends_made}
use Rattle.run_lines.proofs.round.Progress.order_of.Goals as goal

pub returns-in_err-oldest : goal.returns-in_err-oldest
returns-in_err-oldest g c = λ slot.
    told_err c.from_residual.result _ _ c.from_residual.ensures.0
    (nothing_misses (SomeQuery c.args.conn (Some slot) c.args.window.now) c.args.office.now c.oldest_order.new.office c.oldest_order.ensures.along)

pub returns-in_err-query-in-Some-oldest : goal.returns-in_err-query-in-Some-oldest
returns-in_err-query-in-Some-oldest g c = λ slot.
    let old = c.args.office.now in
    let device = c.as_str.result.now in
    let number = c.in-Some-oldest.number in
    told_err c.from_residual-in_err-query-in-Some-oldest.result _ _ c.from_residual-in_err-query-in-Some-oldest.ensures.0
    (sends_made c.args.conn slot c.args.window.now device old c.oldest_order.new.office c.send_order.new.self number (Err c.in_err-query-in-Some-oldest.field-0.0) (sym c.if-has_order.ensures)
    (subst (λ (found : Option ℕ). Learnt old c.oldest_order.new.office (λ now. IsOldest now device found)) c.in-Some-oldest.is c.in_ok-oldest.ensures.value)
    c.in_err-query-in-Some-oldest.ensures.counts.1 c.in_err-query-in-Some-oldest.ensures.went)

pub returns-in_ok-query-in-Some-oldest : goal.returns-in_ok-query-in-Some-oldest
returns-in_ok-query-in-Some-oldest g c = λ slot.
    let old = c.args.office.now in
    let device = c.as_str.result.now in
    let number = c.in-Some-oldest.number in
    sends_made c.args.conn slot c.args.window.now device old c.oldest_order.new.office c.send_order.new.self number (Ok c.in_ok-query-in-Some-oldest.query) (sym c.if-has_order.ensures)
    (subst (λ (found : Option ℕ). Learnt old c.oldest_order.new.office (λ now. IsOldest now device found)) c.in-Some-oldest.is c.in_ok-oldest.ensures.value)
    c.in_ok-query-in-Some-oldest.ensures.counts.1 c.in_ok-query-in-Some-oldest.ensures.went
