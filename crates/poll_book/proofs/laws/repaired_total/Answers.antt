use Rattle.poll_book.proofs.Repairs.{repaired_is, late_is, not_counted_is, of_another_is}
use Rattle.poll_book.proofs.Bounds.{total_bound}
use Rattle.poll_book.proofs.laws.repaired_total.Goals as goal

pub returns-clause-repaired : goal.returns-clause-repaired
returns-clause-repaired c = repaired_is

pub returns-clause-late : goal.returns-clause-late
returns-clause-late c = late_is

pub returns-clause-not_counted : goal.returns-clause-not_counted
returns-clause-not_counted c = not_counted_is

pub returns-clause-of_another : goal.returns-clause-of_another
returns-clause-of_another c = of_another_is

pub returns-clause-small : goal.returns-clause-small
returns-clause-small c = total_bound
