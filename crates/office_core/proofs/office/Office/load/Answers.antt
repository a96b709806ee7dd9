use Rattle.std.proofs.Common.{refl}
use Rattle.mb_pdu.specs.Replies.{IsBytes}
use Rattle.office_core.specs.declared.event.Event.TheVariants.{Load as Seen}
use Rattle.office_core.specs.declared.event.EventAnswer.TheVariants.{Request}
use Rattle.office_core.specs.Legal.{AreWords}
use Rattle.office_core.specs.Offices.{told_so}
use Rattle.office_core.proofs.Following.{alike_on_err, went}
use Rattle.office_core.proofs.office.Office.load.Goals as goal

pub returns-clause-went : goal.returns-clause-went
returns-clause-went g c = λ clean.
    let old = c.args.self.now in
    let new = c.step_load.new.self in
    let list = c.args.list.now in
    let message : IsBytes list × AreWords (c.args.caller.now, c.args.key.now) = (c.are_bytes.ensures, c.are_words.ensures) in
    let seen = Seen c.args.caller.now c.args.key.now list in
    went old new seen Request told_so (λ answer. refl) (λ e. refl) (λ answer. refl)
    (λ now. c.any_message.ensures.may_happen now seen message) (λ now. c.any_message.ensures.seen now seen message)
    c.step_load.result (c.step_load.ensures.goes clean) (c.step_load.ensures.leaves clean) (alike_on_err old new c.step_load.result c.step_load.ensures.same)
