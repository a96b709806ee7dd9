use Rattle.office_store.proofs.Once.{once}
use Rattle.office_store.proofs.laws.stands_once.Goals as goal

pub returns : goal.returns
returns c = once
