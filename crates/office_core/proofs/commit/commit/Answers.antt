use Rattle.poll_book.specs.Changes.{applied}
use Rattle.office_core.proofs.Newness.{committed}
use Rattle.office_core.proofs.commit.commit.Goals as goal

pub returns-clause-leaves : goal.returns-clause-leaves
returns-clause-leaves g c clean kept h new =
    let may = g.K.Neighbours.may_leave in
    committed (may c.args.keeper.now) (may c.apply.new.self) (applied c.args.change.now kept) c.apply.result
    (c.apply.ensures.crash clean kept h new) (c.apply.ensures.durable clean kept h new)
