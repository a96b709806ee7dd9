use Rattle.office_core.proofs.SettledOrders.{settled, waits, never_changes}
use Rattle.office_core.proofs.laws.settled_orders.Goals as goal

pub returns-clause-settled : goal.returns-clause-settled
returns-clause-settled c = settled

pub returns-clause-waits : goal.returns-clause-waits
returns-clause-waits c = waits

pub returns-clause-never_changes : goal.returns-clause-never_changes
returns-clause-never_changes c = λ before later order setting e done. never_changes order setting done before later e
