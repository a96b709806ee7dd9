use Rattle.office_core.proofs.KeptRequests.{is_order, one_key, one_order, orders}
use Rattle.office_core.proofs.laws.one_order_a_key.Goals as goal

pub returns-clause-one_key : goal.returns-clause-one_key
returns-clause-one_key c = one_key

pub returns-clause-one_order : goal.returns-clause-one_order
returns-clause-one_order c = one_order

pub returns-clause-orders : goal.returns-clause-orders
returns-clause-orders c = orders

pub returns-clause-numbered : goal.returns-clause-numbered
returns-clause-numbered c = is_order
