use Rattle.office_core.proofs.Messages.{may_happen, seen_so}
use Rattle.office_core.proofs.laws.any_message.Goals as goal

pub returns-clause-may_happen : goal.returns-clause-may_happen
returns-clause-may_happen c = may_happen

pub returns-clause-seen : goal.returns-clause-seen
returns-clause-seen c = seen_so
