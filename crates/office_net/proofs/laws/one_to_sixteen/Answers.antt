use Rattle.office_net.proofs.Outstanding.{one_to_sixteen}
use Rattle.office_net.proofs.laws.one_to_sixteen.Goals as goal

pub returns : goal.returns
returns c = one_to_sixteen
