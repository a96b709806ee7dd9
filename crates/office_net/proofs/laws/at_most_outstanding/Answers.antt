use Rattle.office_net.proofs.Outstanding.{at_most_outstanding}
use Rattle.office_net.proofs.laws.at_most_outstanding.Goals as goal

pub returns : goal.returns
returns c = at_most_outstanding
