use Rattle.point_list.specs.Edition.{Second}
use Rattle.point_list.specs.Lists.{records_of}
use Rattle.point_list.proofs.PointsRead.{list_fault, points_are, points_few, points_fault}
use Rattle.point_list.proofs.resolving.read_points.Goals as goal

pub returns-in-Ok-clause-points : goal.returns-in-Ok-clause-points
returns-in-Ok-clause-points c = points_are Second c.args.site.now (records_of c.args.bytes.now) c.in-Ok.rows.items c.in-Ok.ensures.rows c.resolve.result c.resolve.ensures.points

pub returns-in-Ok-clause-few : goal.returns-in-Ok-clause-few
returns-in-Ok-clause-few c = points_few Second c.args.site.now (records_of c.args.bytes.now) c.in-Ok.rows.items c.in-Ok.ensures.rows c.resolve.result c.resolve.ensures.points

pub returns-in-Ok-clause-fault : goal.returns-in-Ok-clause-fault
returns-in-Ok-clause-fault c = points_fault Second c.args.site.now (records_of c.args.bytes.now) c.in-Ok.rows.items c.in-Ok.ensures.rows c.resolve.result c.resolve.ensures.fault

pub returns-in-Err-clause-fault : goal.returns-in-Err-clause-fault
returns-in-Err-clause-fault c = list_fault Second c.args.site.now (records_of c.args.bytes.now) c.in-Err.e c.in-Err.ensures.fault
