-- What a list means, computed: its rows, or its fault.
use Rattle.std.specs.Prelude.{ℕ, ◌+◌, List, [], ◌∷◌, ◌++◌, length, Bool, Option, Some, None, Result, Ok, Err, if◌then◌else◌}
use Rattle.point_list.specs.Columns.{Record, field, ◌then◌}
use Rattle.point_list.specs.Edition.{Edition}
use Rattle.point_list.specs.Header.{is_header}
use Rattle.point_list.specs.Lists.{table_in, address_in, model_in, type_in, scale_in, role_in, roll_in, order_in, fault_below}
use Rattle.point_list.specs.declared.point.Point.{Point}
use Rattle.point_list.specs.declared.point.ListRow.{ListRow}
use Rattle.point_list.specs.declared.error.ListError.{ListError}
use Rattle.point_list.specs.declared.error.ListFault.{ListFault}
use Rattle.point_list.specs.declared.error.ListFault.TheVariants.{BadHeader}

-- ---- rows

-- the point that a record says, if each of its columns says something
abbrev pub point_in : Record → Option Point
point_in r =
    table_in r then (λ table. address_in r then (λ address. type_in r then (λ kind.
    scale_in r then (λ scale. role_in r then (λ role. roll_in r then (λ roll. order_in r then (λ order.
    Some (record {
      name = field r 0;
      device = field r 1;
      table = table;
      address = address;
      kind = kind;
      scale = scale;
      role = role;
      roll = roll;
      order = order;
    }))))))))

-- the row of this number in front of the rows after it, if there is a point
abbrev pub row_before : ℕ → Option (ℕ × ℕ) → Option Point → List ListRow → List ListRow
row_before number model None rows = rows
row_before number model (Some point) rows = record { row = number; point = point; model = model } ∷ rows

-- the rows that these records say, of which the first has this number
abbrev pub rows_said : ℕ → List Record → List ListRow
rows_said number [] = []
rows_said number (r ∷ rs) = row_before number (model_in r) (point_in r) (rows_said (number + 1) rs)

-- ---- faults

-- a fault and its column in the record of this number
abbrev pub fault_at : ℕ → ListFault × ℕ → ListError
fault_at number fault = record { fault = fault.0; row = number; column = fault.1 }

-- the fault of the record of this number, and a later fault where it has none
abbrev pub fault_or_later : ℕ → Option (ListFault × ℕ) → Option ListError → Option ListError
fault_or_later number None later = later
fault_or_later number (Some fault) later = Some (fault_at number fault)

-- below so many columns and points of these names, the fault of the first of these records that has one; the first record
-- has this number
abbrev pub first_fault : ℕ → (List ℕ → Bool) → List (List ℕ) → ℕ → List Record → Option ListError
first_fault columns known names number [] = None
first_fault columns known names number (r ∷ rs) =
    fault_or_later number (fault_below columns known names r) (first_fault columns known (names ++ field r 0 ∷ []) (number + 1) rs)

-- the fault of a list with no header
abbrev pub missing_header : ListError
missing_header = record { fault = BadHeader; row = 1; column = 0 }

-- ---- lists

-- these rows, unless there is a fault
abbrev pub rows_unless : Option ListError → List ListRow → Result (List ListRow) ListError
rows_unless None rows = Ok rows
rows_unless (Some e) rows = Err e

-- what the records below a header of so many columns mean
abbrev pub body_meaning : ℕ → (List ℕ → Bool) → List Record → Result (List ListRow) ListError
body_meaning columns known body = rows_unless (first_fault columns known [] 2 body) (rows_said 2 body)

-- what a list of these records means in an edition, where the site knows these devices
abbrev pub list_meaning : Edition → (List ℕ → Bool) → List Record → Result (List ListRow) ListError
list_meaning edition known [] = Err missing_header
list_meaning edition known (first ∷ body) = if is_header edition first then body_meaning (length first) known body else Err missing_header
