use Rattle.std.specs.Int.{w128}
use Rattle.std.proofs.Common.{◌≡◌, refl, subst, of_z, to_z}
use Rattle.std.proofs.lemmas.Int.{to_z-of_z}
use Rattle.mb_pdu.specs.Replies.{IsBytes}
use Rattle.office_core.specs.declared.event.Event.TheVariants.{Order as Seen}
use Rattle.office_core.specs.declared.event.EventAnswer.TheVariants.{Request}
use Rattle.office_core.specs.Following.{MayLeave}
use Rattle.office_core.specs.Leavings.{Leaves}
use Rattle.office_core.specs.Legal.{AreWords, IsNumber}
use Rattle.office_core.specs.Offices.{Stands, told_so}
use Rattle.office_core.specs.Standing.{Goes}
use Rattle.office_core.proofs.Following.{alike_on_err, is_number, went}
use Rattle.office_core.proofs.office.Office.order.Goals as goal

pub returns-clause-went : goal.returns-clause-went
returns-clause-went g c = λ clean.
    let old = c.args.self.now in
    let new = c.step_order.new.self in
    let caller = c.args.caller.now in
    let key = c.args.key.now in
    let point = c.args.point.now in
    let bytes : IsBytes point = subst IsBytes c.as_bytes.ensures.value c.are_bytes.ensures in
    let message : IsBytes point × IsNumber c.args.value × AreWords (caller, key) = (bytes, is_number c.args.value c.ranges.value, c.are_words.ensures) in
    let seen = Seen caller key point c.args.value in
    let same : to_z w128 (of_z w128 c.args.value) ≡ c.args.value = to_z-of_z w128 c.args.value c.ranges.value in
    went old new seen Request told_so (λ answer. refl) (λ e. refl) (λ answer. refl)
    (λ now. c.any_message.ensures.may_happen now seen message) (λ now. c.any_message.ensures.seen now seen message) c.step_order.result
    (subst (λ v. Goes (Stands old) (Stands new) (Seen caller key point v) (told_so c.step_order.result)) same (c.step_order.ensures.goes clean))
    (subst (λ v. Leaves (Stands old) (MayLeave old) (MayLeave new) (Seen caller key point v) (told_so c.step_order.result)) same (c.step_order.ensures.leaves clean))
    (alike_on_err old new c.step_order.result c.step_order.ensures.same)
