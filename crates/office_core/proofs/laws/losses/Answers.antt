use Rattle.office_core.proofs.LostReadings.{total_lost, rounds_of_total}
use Rattle.office_core.proofs.laws.losses.Goals as goal

pub returns-clause-lost : goal.returns-clause-lost
returns-clause-lost c = total_lost

pub returns-clause-rounds : goal.returns-clause-rounds
returns-clause-rounds c less more known few many same voids there has xs ys lower upper first last =
    rounds_of_total less more known few many same voids there has xs ys lower upper first last
