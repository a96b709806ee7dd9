use Rattle.std.proofs.Common.{◌∙◌}
use Rattle.csv.specs.Records.{fields_of}
use Rattle.point_list.proofs.RecordsRead.{quoted_field}
use Rattle.point_list.proofs.records.read_quoted.Goals as goal

pub returns-clause-same : goal.returns-clause-same
returns-clause-same c =
    rw (c.in_ok-push_field.ensures.fields, c.requires, c.as_slice.ensures.value, c.in_ok-extend_from_slice.ensures.items, c.split_plain.ensures.part, c.split_plain.ensures.rest)
    (c.in_ok-after.ensures.same (fields_of c.args.row.now) ∙ quoted_field (fields_of c.args.row.now) c.read_inside.new.quoted.items c.in_ok-after.after.now)
