use Rattle.std.proofs.Common.{◌≤◌, arith, refl, subst}
use Rattle.mb_pdu.specs.Replies.{IsBytes}
use Rattle.office_core.specs.declared.event.Event.TheVariants.{Ask as Seen}
use Rattle.office_core.specs.declared.event.EventAnswer.TheVariants.{Query}
use Rattle.office_core.specs.Offices.{asked_so}
use Rattle.office_core.proofs.Following.{went}
use Rattle.office_core.proofs.office.Office.ask.Goals as goal

pub returns-clause-went : goal.returns-clause-went
returns-clause-went g c = λ clean.
    let conn = c.args.conn in
    let slot = c.args.slot in
    let device = c.args.device.now in
    let bytes : IsBytes device = subst IsBytes c.as_bytes.ensures.value c.are_bytes.ensures in
    let small : conn ≤ 4294967295 = omega (arith, c.number-number.ensures, c.number-number.type_inv) in
    let message : IsBytes device × (conn ≤ 4294967295) × (slot ≤ 4294967295) = (bytes, small, omega (arith, c.ranges.slot)) in
    let seen = Seen conn device slot c.args.read in
    went c.args.self.now c.step_ask.new.self seen Query asked_so (λ query. refl) (λ e. refl) (λ query. refl)
    (λ now. c.any_message.ensures.may_happen now seen message) (λ now. c.any_message.ensures.seen now seen message)
    c.step_ask.result (c.step_ask.ensures.goes clean) (c.step_ask.ensures.leaves clean) c.step_ask.ensures.same
