use Rattle.office_core.proofs.Proceeding.{along_asked}
use Rattle.run_callers.proofs.looks.total_of.Goals as goal

pub returns-clause-along : goal.returns-clause-along
returns-clause-along g c = along_asked c.args.office.now c.total_numbered.new.self c.total_numbered.ensures.accounts.2 c.total_numbered.ensures.asked
