use Rattle.point_list.proofs.OneMeaning.{rows_are, fault_is}
use Rattle.point_list.proofs.laws.one_meaning.Goals as goal

pub returns-clause-rows : goal.returns-clause-rows
returns-clause-rows c = rows_are

pub returns-clause-fault : goal.returns-clause-fault
returns-clause-fault c = fault_is
