use Rattle.mb_map.proofs.Once.{stands_once}
use Rattle.mb_map.proofs.laws.one_schedule.Goals as goal

pub returns : goal.returns
returns c = stands_once c.one_step.ensures
