use Rattle.std.proofs.Common.{◌∙◌, arith}
use Rattle.csv.specs.Records.{fields_of}
use Rattle.point_list.proofs.RecordsRead.{behind_comma, behind_line}
use Rattle.point_list.proofs.records.read_record.Goals as goal

pub returns-in_default-behind-clause-same : goal.returns-in_default-behind-clause-same
returns-in_default-behind-clause-same c =
    rw c.without_first.ensures
    (c.fields.invariant.same ∙ c.in_ok-end.ensures.same ∙ behind_line (fields_of c.read_field.new.row) c.in_ok-end.end.now c.in_default-behind.ensures.rest)

pub fields-preserved : goal.fields-preserved
fields-preserved c = record {
  same = c.fields.invariant.same ∙ c.in_ok-end.ensures.same ∙ behind_comma (fields_of c.read_field.new.row) c.in_ok-end.end.now c.in-Some-behind.more.now c.in-Some-behind.ensures.rest;
  partial = c.in_ok-end.ensures.partial;
  short = omega (arith, c.fields.invariant.short, c.in_ok-end.ensures.short, c.in-Some-behind.ensures.short);
  some = c.fields.invariant.some;
}
