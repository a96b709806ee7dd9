use Rattle.std.proofs.Common.{inr}
use Rattle.office_core.specs.declared.event.EventAnswer.TheVariants.{Refused}
use Rattle.office_core.specs.History.{Send}
use Rattle.office_core.specs.Following.{Follows, MayLeave}
use Rattle.office_net.specs.Moves.{next_order, turn_of}
use Rattle.office_net.specs.declared.job.LineJob.TheVariants.{Order}
use Rattle.office_core.proofs.Following.{stays_so}
use Rattle.office_net.proofs.Called.{err_so}
use Rattle.office_net.proofs.Turning.{number_found, then_fails}
use Rattle.office_net.proofs.turns.send_next.Goals as goal

pub returns-in_err-send_order-clause-turned : goal.returns-in_err-send_order-clause-turned
returns-in_err-send_order-clause-turned g c = λ clean slot.
    let device = c.args.device.now in
    let mid = c.send_order.ensures.counts.1 clean in
    err_so c.from_residual-in_err-send_order.result _ _ c.in_err-send_order.field-0.0 c.from_residual-in_err-send_order.ensures.1
    (inr (
      (λ now follows. (number_found c.in_ok-order.field-0 c.in-Some.order (next_order now device) c.in-Some.is (c.in_ok-order.ensures.value mid now follows.0)).0),
      then_fails (Follows c.args.office.now) (Follows c.waiting.new.self) (Follows c.send_order.new.self) (MayLeave c.args.office.now) (MayLeave c.waiting.new.self) (MayLeave c.send_order.new.self)
          (stays_so c.args.office.now c.waiting.new.self c.waiting.ensures.asked mid) (λ now. turn_of c.args.conn slot now (Order device)) (Send c.args.conn c.in-Some.order.number) (Refused c.in_err-send_order.field-0.0)
          (λ now follows. λ i. Send c.args.conn ((number_found c.in_ok-order.field-0 c.in-Some.order (next_order now device) c.in-Some.is (c.in_ok-order.ensures.value mid now follows.0)).1 i))
          (c.in_err-send_order.ensures.went clean),
    ))
