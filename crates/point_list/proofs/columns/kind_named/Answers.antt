use Rattle.point_list.proofs.Words.{none_named}
use Rattle.point_list.proofs.columns.kind_named.Goals as goal

pub returns-in-Err : goal.returns-in-Err
returns-in-Err c = none_named c.args.text.now c.in-Err.ensures.cases.0
