use Rattle.office_core.proofs.SettledOrders.{oldest}
use Rattle.office_core.proofs.laws.no_overtaking.Goals as goal

pub returns : goal.returns
returns c = oldest
