use Rattle.std.proofs.Common.{inl, refl}
use Rattle.point_list.specs.Edition.{Second}
use Rattle.office_core.specs.History.{Load}
use Rattle.office_core.specs.Offices.{CauseFrom}
use Rattle.office_http.specs.Meanings.{load}
use Rattle.office_core.specs.Following.{Follows, MayLeave}
use Rattle.office_net.proofs.Requested.{misses, of_store}
use Rattle.office_net.proofs.answering.put_list.Goals as goal

pub returns-in-Err-clause-goes : goal.returns-in-Err-clause-goes
returns-in-Err-clause-goes g c = λ clean.
    let old = c.args.office.now in
    let new = c.load.new.self in
    let caller = c.args.caller.now in
    let key = c.args.key.now in
    let list = c.args.list.now in
    let e = c.in-Err.error in
    inl (misses (Follows old) (Follows new) (MayLeave old) (MayLeave new) (load caller key list) (Load Second caller key list) refl e
    (of_store (CauseFrom old new) e c.in-Err.ensures.accounts.0) (c.in-Err.ensures.went clean))
