use Rattle.std.proofs.Common.{◌≡◌, ◌≤◌, ℕ, List, [], length}
use Rattle.csv.specs.declared.parser.State.TheVariants as st
use Rattle.point_list.specs.Records.{next_from}
use Rattle.point_list.proofs.records.read_inside.Given as goal

abbrev pub invariant-parts : goal.invariant-parts
invariant-parts l = record {
  same : (fields : List (List ℕ)) → next_from st.InQuoted fields [] l.fn.text ≡ next_from st.InQuoted fields l.quoted.items l.rest;
  short : length l.rest ≤ length l.fn.text;
}

abbrev pub decreases-parts : goal.decreases-parts
decreases-parts l = length l.rest
