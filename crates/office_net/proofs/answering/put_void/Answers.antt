use Rattle.std.proofs.Common.{inl, refl}
use Rattle.office_core.specs.History.{Void}
use Rattle.office_core.specs.Offices.{CauseFrom}
use Rattle.office_http.specs.Meanings.{void}
use Rattle.office_core.specs.Following.{Follows, MayLeave}
use Rattle.office_net.proofs.Requested.{misses, of_store}
use Rattle.office_net.proofs.answering.put_void.Goals as goal

pub returns-in-Err-clause-goes : goal.returns-in-Err-clause-goes
returns-in-Err-clause-goes g c = λ clean.
    let old = c.args.office.now in
    let new = c.void.new.self in
    let caller = c.args.caller.now in
    let key = c.args.key.now in
    let point = c.args.point.now in
    let e = c.in-Err.error in
    inl (misses (Follows old) (Follows new) (MayLeave old) (MayLeave new) (void caller key point c.args.slot) (Void caller key point c.args.slot) refl e
    (of_store (CauseFrom old new) e c.in-Err.ensures.accounts.0) (c.in-Err.ensures.went clean))
