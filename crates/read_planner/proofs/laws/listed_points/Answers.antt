use Rattle.read_planner.proofs.Listed.{listed, listed_placed}
use Rattle.read_planner.proofs.laws.listed_points.Goals as goal

pub returns-clause-rows : goal.returns-clause-rows
returns-clause-rows c = listed

pub returns-clause-points : goal.returns-clause-points
returns-clause-points c = listed_placed
