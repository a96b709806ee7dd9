use Rattle.std.proofs.Common.{◌≤◌, arith, refl, subst}
use Rattle.mb_pdu.specs.Replies.{IsBytes}
use Rattle.office_core.specs.declared.event.Event.TheVariants.{Void as Seen}
use Rattle.office_core.specs.declared.event.EventAnswer.TheVariants.{Request}
use Rattle.office_core.specs.Legal.{AreWords}
use Rattle.office_core.specs.Offices.{told_so}
use Rattle.office_core.proofs.Following.{alike_on_err, went}
use Rattle.office_core.proofs.office.Office.void.Goals as goal

pub returns-clause-went : goal.returns-clause-went
returns-clause-went g c = λ clean.
    let old = c.args.self.now in
    let new = c.step_void.new.self in
    let caller = c.args.caller.now in
    let key = c.args.key.now in
    let point = c.args.point.now in
    let bytes : IsBytes point = subst IsBytes c.as_bytes.ensures.value c.are_bytes.ensures in
    let message : IsBytes point × (c.args.slot ≤ 4294967295) × AreWords (caller, key) = (bytes, omega (arith, c.ranges.slot), c.are_words.ensures) in
    let seen = Seen caller key point c.args.slot in
    went old new seen Request told_so (λ answer. refl) (λ e. refl) (λ answer. refl)
    (λ now. c.any_message.ensures.may_happen now seen message) (λ now. c.any_message.ensures.seen now seen message)
    c.step_void.result (c.step_void.ensures.goes clean) (c.step_void.ensures.leaves clean) (alike_on_err old new c.step_void.result c.step_void.ensures.same)
