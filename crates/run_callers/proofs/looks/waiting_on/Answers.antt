use Rattle.office_core.proofs.Proceeding.{along_asked}
use Rattle.run_callers.proofs.looks.waiting_on.Goals as goal

pub returns : goal.returns
returns g c = along_asked c.args.office.now c.waiting.new.self c.waiting.ensures.accounts.2 c.waiting.ensures.asked
