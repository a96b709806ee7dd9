use Rattle.std.proofs.Common.{◌≤◌, arith, refl}
use Rattle.office_core.specs.declared.event.Event.TheVariants.{Send as Seen}
use Rattle.office_core.specs.declared.event.EventAnswer.TheVariants.{Query}
use Rattle.office_core.specs.Offices.{asked_so}
use Rattle.office_core.proofs.Following.{went}
use Rattle.office_core.proofs.office.Office.send_order.Goals as goal

pub returns-clause-went : goal.returns-clause-went
returns-clause-went g c = λ clean.
    let conn = c.args.conn in
    let number = c.args.number in
    let small : conn ≤ 4294967295 = omega (arith, c.number-number.ensures, c.number-number.type_inv) in
    let message : (conn ≤ 4294967295) × (number ≤ 4294967295) = (small, omega (arith, c.ranges.number)) in
    let seen = Seen conn number in
    went c.args.self.now c.step_send.new.self seen Query asked_so (λ query. refl) (λ e. refl) (λ query. refl)
    (λ now. c.any_message.ensures.may_happen now seen message) (λ now. c.any_message.ensures.seen now seen message)
    c.step_send.result (c.step_send.ensures.goes clean) (c.step_send.ensures.leaves clean) c.step_send.ensures.same
