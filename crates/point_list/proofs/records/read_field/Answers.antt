use Rattle.csv.specs.Records.{fields_of}
use Rattle.point_list.proofs.RecordsRead.{begins_plain, begins_quoted}
use Rattle.point_list.proofs.records.read_field.Goals as goal

pub returns-in-Some-clause-same : goal.returns-in-Some-clause-same
returns-in-Some-clause-same c =
    rw (begins_quoted (fields_of c.args.row.now) c.args.text.now c.in-Some.inside.now c.in-Some.ensures.rest) c.read_quoted.ensures.same

pub returns-in-None-clause-same : goal.returns-in-None-clause-same
returns-in-None-clause-same c =
    rw (begins_plain (fields_of c.args.row.now) c.args.text.now c.in-None.ensures.rest) c.read_plain.ensures.same
