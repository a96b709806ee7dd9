use Rattle.office_net.proofs.Querying.{heard_of}
use Rattle.office_net.proofs.going.take_late.Goals as goal

pub returns-clause-came : goal.returns-clause-came
returns-clause-came g c = heard_of c.args.office.now c.arrive.new.self c.args.conn c.args.frame.now c.arrive.result c.arrive.ensures.accounts.2 c.arrive.ensures.went c.arrive.ensures.came
