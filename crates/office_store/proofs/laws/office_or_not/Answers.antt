use Rattle.office_store.proofs.Deciding.{office_decided}
use Rattle.office_store.proofs.laws.office_or_not.Goals as goal

pub returns : goal.returns
returns c = office_decided
