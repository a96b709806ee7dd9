use Rattle.office_core.proofs.Proceeding.{along_asked}
use Rattle.run_callers.proofs.looks.last_of.Goals as goal

pub returns-clause-along : goal.returns-clause-along
returns-clause-along g c = along_asked c.args.office.now c.last_numbered.new.self c.last_numbered.ensures.accounts.2 c.last_numbered.ensures.asked
