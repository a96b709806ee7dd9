use Rattle.poll_book.specs.Tables.{marked}
use Rattle.poll_book.specs.Totals.{total as total_of}
use Rattle.office_core.proofs.AskedAgain.{same_slots}
use Rattle.office_core.proofs.laws.asked_again.Goals as goal

pub returns-clause-readings : goal.returns-clause-readings
returns-clause-readings c = same_slots

pub returns-clause-totals : goal.returns-clause-totals
returns-clause-totals c one other legal legal_other points pairs slots words known =
    λ i. total_of known (marked (pairs i) (same_slots one other legal legal_other points slots words i))
