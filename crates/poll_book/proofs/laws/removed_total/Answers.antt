use Rattle.poll_book.proofs.Repairs.{removed_is, taken_is}
use Rattle.poll_book.proofs.laws.removed_total.Goals as goal

pub returns-clause-removed : goal.returns-clause-removed
returns-clause-removed c = removed_is

pub returns-clause-between : goal.returns-clause-between
returns-clause-between c = taken_is
