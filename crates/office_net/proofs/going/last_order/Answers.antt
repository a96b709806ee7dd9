use Rattle.office_core.proofs.Proceeding.{along_asked}
use Rattle.office_net.proofs.going.last_order.Goals as goal

pub returns-clause-along : goal.returns-clause-along
returns-clause-along g c = along_asked c.args.office.now c.orders.new.self c.orders.ensures.accounts.2 c.orders.ensures.asked
