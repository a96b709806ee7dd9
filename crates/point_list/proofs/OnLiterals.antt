-- What to unfold to compute the meaning of a list that is written out.
use Rattle.std.specs.Prelude.{⊤}
use Rattle.csv.specs.Records.{field_at}
use Rattle.csv.proofs.OnLiterals.{csv_on_literals}
use Rattle.sunspec.specs.PointType.{row}
use Rattle.point_list.specs.Columns.{parts_of, named_in, sized, scaled_by, role_of, roll_of, order_of}
use Rattle.point_list.specs.Lists.{table_in, address_in, model_in, name_of_type_in, type_in, scale_in, role_in, roll_in, order_in, fault_below}

unfoldable pub lists_on_literals : ⊤
unfolding csv_on_literals field_at row named_in sized scaled_by role_of roll_of order_of parts_of table_in address_in model_in name_of_type_in type_in scale_in role_in roll_in order_in fault_below
lists_on_literals = tt
