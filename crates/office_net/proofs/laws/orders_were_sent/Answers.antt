use Rattle.office_net.proofs.Turned.{orders_sent}
use Rattle.office_net.proofs.laws.orders_were_sent.Goals as goal

pub returns : goal.returns
returns c = orders_sent
