use Rattle.poll_book.specs.Tables.{marked}
use Rattle.poll_book.specs.Totals.{total as total_of}
use Rattle.office_core.proofs.Calls.{same_voids}
use Rattle.office_core.proofs.SameArrivals.{same_readings, same_settings}
use Rattle.office_core.proofs.laws.order_free.Goals as goal

pub returns-clause-readings : goal.returns-clause-readings
returns-clause-readings c = same_readings

pub returns-clause-totals : goal.returns-clause-totals
returns-clause-totals c one other legal legal_other same copies known =
    λ i. total_of known (marked (same_voids one other same.calls i) (same_readings one other legal legal_other same copies i))

pub returns-clause-orders : goal.returns-clause-orders
returns-clause-orders c = same_settings
