use Rattle.office_core.proofs.Proceeding.{along_asked}
use Rattle.run_callers.proofs.looks.readings_of.Goals as goal

pub returns : goal.returns
returns g c = along_asked c.args.office.now c.readings_numbered.new.self c.readings_numbered.ensures.accounts.2 c.readings_numbered.ensures.asked
