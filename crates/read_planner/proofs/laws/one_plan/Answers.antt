use Rattle.std.proofs.Common.{[]}
use Rattle.read_planner.proofs.OnePlan.{one_plan}
use Rattle.read_planner.proofs.laws.one_plan.Goals as goal

pub returns : goal.returns
returns c = λ places gap reads others. one_plan places gap [] reads others
