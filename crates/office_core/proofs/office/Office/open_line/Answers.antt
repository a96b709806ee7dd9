use Rattle.std.proofs.Common.{refl, subst}
use Rattle.mb_pdu.specs.Replies.{IsBytes}
use Rattle.office_core.specs.declared.event.Event.TheVariants.{Open as Seen}
use Rattle.office_core.specs.declared.event.EventAnswer.TheVariants.{Opened}
use Rattle.office_core.specs.Offices.{opened}
use Rattle.office_core.proofs.Following.{went}
use Rattle.office_core.proofs.office.Office.open_line.Goals as goal

pub returns-clause-went : goal.returns-clause-went
returns-clause-went g c = λ clean.
    let line = c.args.line.now in
    let message : IsBytes line = subst IsBytes c.as_bytes.ensures.value c.are_bytes.ensures in
    let seen = Seen line in
    went c.args.self.now c.step_open.new.self seen Opened opened (λ conn. refl) (λ e. refl) (λ conn. refl)
    (λ now. c.any_message.ensures.may_happen now seen message) (λ now. c.any_message.ensures.seen now seen message)
    c.step_open.result (c.step_open.ensures.goes clean) (c.step_open.ensures.leaves clean) c.step_open.ensures.same
