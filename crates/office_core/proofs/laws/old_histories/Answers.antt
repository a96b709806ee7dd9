use Rattle.office_core.proofs.OldHistories.{old_plain, old_unvoided}
use Rattle.office_core.proofs.laws.old_histories.Goals as goal

pub returns-clause-plain : goal.returns-clause-plain
returns-clause-plain c = old_plain

pub returns-clause-unvoided : goal.returns-clause-unvoided
returns-clause-unvoided c = old_unvoided
