use Rattle.std.proofs.Common.{◌≡◌, ◌≤◌, ◌<◌, [], length}
use Rattle.csv.specs.Records.{fields_of, partial_of}
use Rattle.csv.specs.declared.parser.State.TheVariants as st
use Rattle.point_list.specs.Records.{next_from}
use Rattle.point_list.proofs.records.read_record.Given as goal

abbrev pub invariant-fields : goal.invariant-fields
invariant-fields l = record {
  same : next_from st.StartRecord [] [] l.fn.text ≡ next_from st.StartField (fields_of l.row) [] l.rest;
  partial : partial_of l.row ≡ [];
  short : length l.rest ≤ length l.fn.text;
  some : 0 < length l.fn.text;
}

abbrev pub decreases-fields : goal.decreases-fields
decreases-fields l = length l.rest
