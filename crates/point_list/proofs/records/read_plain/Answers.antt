use Rattle.csv.specs.Records.{fields_of}
use Rattle.point_list.proofs.RecordsRead.{plain_field}
use Rattle.point_list.proofs.records.read_plain.Goals as goal

pub returns-clause-same : goal.returns-clause-same
returns-clause-same c =
    rw (c.in_ok-push_field.ensures.fields, c.requires, c.split_plain.ensures.part, c.split_plain.ensures.rest)
    (plain_field (fields_of c.args.row.now) c.args.text.now)
