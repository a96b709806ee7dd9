use Rattle.std.proofs.Common.{refl, subst}
use Rattle.mb_pdu.specs.Replies.{IsBytes}
use Rattle.office_core.specs.declared.event.Event.TheVariants.{Arrive as Seen}
use Rattle.office_core.specs.declared.event.EventAnswer.TheVariants.{Arrived}
use Rattle.office_core.specs.Following.{MayLeave}
use Rattle.office_core.specs.Offices.{Stands, arrived}
use Rattle.office_core.proofs.Following.{happened, went}
use Rattle.office_core.proofs.office.Office.arrive.Goals as goal

pub returns-clause-went : goal.returns-clause-went
returns-clause-went g c = λ clean.
    let frame = c.args.frame.now in
    let message : IsBytes frame.unit = subst IsBytes c.as_bytes.ensures.value c.are_bytes.ensures in
    let seen = Seen c.args.conn frame in
    went c.args.self.now c.step_arrive.new.self seen Arrived arrived (λ arrival. refl) (λ e. refl) (λ arrival. refl)
    (λ now. c.any_message.ensures.may_happen now seen message) (λ now. c.any_message.ensures.seen now seen message)
    c.step_arrive.result (c.step_arrive.ensures.goes clean) (c.step_arrive.ensures.leaves clean) c.step_arrive.ensures.same

pub returns-clause-came : goal.returns-clause-came
returns-clause-came g c = λ clean.
    let old = c.args.self.now in
    let new = c.step_arrive.new.self in
    let frame = c.args.frame.now in
    let message : IsBytes frame.unit = subst IsBytes c.as_bytes.ensures.value c.are_bytes.ensures in
    let seen = Seen c.args.conn frame in
    happened (Stands old) (Stands new) (MayLeave old) (MayLeave new) seen (arrived c.step_arrive.result)
    (λ now. c.any_message.ensures.may_happen now seen message) (λ now. c.any_message.ensures.seen now seen message)
    (c.step_arrive.ensures.goes clean) (c.step_arrive.ensures.leaves clean)
