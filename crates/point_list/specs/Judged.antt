-- The two halves of what a record says, and its fault where only its name is left to check.
use Rattle.std.specs.Prelude.{◌≡◌, ℕ, List, Option, Some, None, if◌then◌else◌}
use Rattle.std.specs.List.{list_any}
use Rattle.std.specs.Str.{bytes_eq}
use Rattle.point_list.specs.Columns.{Record, field}
use Rattle.point_list.specs.Lists.{table_in, address_in, model_in, type_in, scale_in, role_in, roll_in, order_in}
use Rattle.point_list.specs.declared.judge.Place.{Place}
use Rattle.point_list.specs.declared.judge.Meaning.{Meaning}
use Rattle.point_list.specs.declared.error.ListFault.{ListFault}
use Rattle.point_list.specs.declared.error.ListFault.TheVariants.{Twice}

-- columns 1 to 4
pub record SaysPlace (r : Record) (place : Place) : Type 0 where
  pub name : place.name ≡ field r 0
  pub device : place.device ≡ field r 1
  pub table : table_in r ≡ Some place.table
  pub address : address_in r ≡ Some place.address
  pub model : place.model ≡ model_in r

-- columns 5 to 10
pub record SaysMeaning (r : Record) (meaning : Meaning) : Type 0 where
  pub kind : type_in r ≡ Some meaning.kind
  pub scale : scale_in r ≡ Some meaning.scale
  pub role : role_in r ≡ Some meaning.role
  pub roll : roll_in r ≡ Some meaning.roll
  pub order : order_in r ≡ Some meaning.order

-- the fault of a record below points of these names, if nothing but its name can be at fault
abbrev pub fault_of_name : List (List ℕ) → Record → Option (ListFault × ℕ)
fault_of_name names r = if list_any (λ name. bytes_eq (field r 0) name) names then Some (Twice, 1) else None
