use Rattle.point_list.proofs.PlainLists.{big_rows, same_meaning, unknown_header}
use Rattle.point_list.proofs.laws.plain_lists.Goals as goal

pub returns-clause-same : goal.returns-clause-same
returns-clause-same c = same_meaning

pub returns-clause-unknown : goal.returns-clause-unknown
returns-clause-unknown c = unknown_header

pub returns-clause-big : goal.returns-clause-big
returns-clause-big c = big_rows
