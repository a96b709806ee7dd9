use Rattle.std.specs.Int.{w128}
use Rattle.std.proofs.Common.{◌≡◌, inl, refl, subst, of_z, to_z}
use Rattle.std.proofs.lemmas.Int.{to_z-of_z}
use Rattle.office_core.specs.declared.event.EventAnswer.TheVariants.{Refused}
use Rattle.office_core.specs.History.{Order}
use Rattle.office_core.specs.Offices.{CauseFrom}
use Rattle.office_http.specs.Meanings.{order}
use Rattle.office_core.specs.Following.{Fails, Follows, MayLeave}
use Rattle.office_net.proofs.Requested.{misses, of_store}
use Rattle.office_net.proofs.answering.put_order.Goals as goal

pub returns-in-Err-clause-goes : goal.returns-in-Err-clause-goes
returns-in-Err-clause-goes g c = λ clean.
    let old = c.args.office.now in
    let new = c.order.new.self in
    let caller = c.args.caller.now in
    let key = c.args.key.now in
    let point = c.args.point.now in
    let e = c.in-Err.error in
    let same : to_z w128 (of_z w128 c.args.value) ≡ c.args.value = to_z-of_z w128 c.args.value c.ranges.value in
    let fails : Fails (Follows old) (Follows new) (MayLeave old) (MayLeave new) (λ _. Order caller key point c.args.value) (Refused e) =
    subst (λ v. Fails (Follows old) (Follows new) (MayLeave old) (MayLeave new) (λ _. Order caller key point v) (Refused e)) same (c.in-Err.ensures.went clean) in
    inl (misses (Follows old) (Follows new) (MayLeave old) (MayLeave new) (order caller key point c.args.value) (Order caller key point c.args.value) refl e
    (of_store (CauseFrom old new) e c.in-Err.ensures.accounts.0) fails)
