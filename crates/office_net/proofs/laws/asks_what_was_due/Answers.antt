use Rattle.office_net.proofs.Turned.{all_due}
use Rattle.office_net.proofs.laws.asks_what_was_due.Goals as goal

pub returns : goal.returns
returns c = all_due
