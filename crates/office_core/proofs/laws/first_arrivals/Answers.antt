use Rattle.office_core.specs.History.{kept_readings}
use Rattle.office_core.proofs.FirstArrivals.{first_arrival}
use Rattle.office_core.proofs.BySlot.{pairs, by_slot, total_by_slot}
use Rattle.office_core.proofs.laws.first_arrivals.Goals as goal

pub returns-clause-some : goal.returns-clause-some
returns-clause-some c = first_arrival

pub returns-clause-slots : goal.returns-clause-slots
returns-clause-slots c = λ before known. (pairs known (kept_readings before), by_slot before known)

pub returns-clause-total : goal.returns-clause-total
returns-clause-total c = total_by_slot
