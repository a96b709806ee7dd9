use Rattle.office_net.proofs.Turned.{reads_asked}
use Rattle.office_net.proofs.laws.reads_were_asked.Goals as goal

pub returns : goal.returns
returns c = reads_asked
