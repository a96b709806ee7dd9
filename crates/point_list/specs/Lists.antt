-- A point list: which records are faultless, which fault is the first, and what rows there are.
use Rattle.std.specs.Prelude.{◌≡◌, ◌≢◌, ◌⊎◌, ◌+◌, ◌<◌, ℕ, ℤ, List, [], ◌∷◌, ◌++◌, map, take, Bool, false, not, ◌==◌, Option, Some, None, is_some, if◌then◌else◌, nat_le, nat_lt, length, get_or}
use Rattle.std.specs.List.{list_any}
use Rattle.std.specs.Str.{bytes_eq}
use Rattle.csv.specs.Reading.{records, strip_bom, default_config}
use Rattle.mb_pdu.specs.declared.table.Table.{Table}
use Rattle.sunspec.specs.declared.point_type.PointType.{PointType}
use Rattle.sunspec.specs.PointType.{row}
use Rattle.sunspec.specs.declared.word_order.WordOrder.{WordOrder}
use Rattle.point_list.specs.Name.{is_name}
use Rattle.point_list.specs.Columns.{Record, field, ◌then◌, table_of, address_unless, model_of, is_left_out, named_in, sized, scaled_by, role_of, roll_of, order_of}
use Rattle.point_list.specs.Edition.{Edition, IsHeader}
use Rattle.point_list.specs.declared.point.Role.{Role}
use Rattle.point_list.specs.declared.point.Point.{Point}
use Rattle.point_list.specs.declared.point.ListRow.{ListRow}
use Rattle.point_list.specs.declared.error.ListError.{ListError}
use Rattle.point_list.specs.declared.error.ListFault.{ListFault}
use Rattle.point_list.specs.declared.error.ListFault.TheVariants.{BadCsv, BadHeader, BadName, UnknownDevice, BadTable, BadAddress, BadType, LeftOutType, BadLength, BadScale, BadRole, BadRoll, BadWords, Twice, TooManyPoints, Memory}

-- the most points that a list has
abbrev pub point_limit : ℕ
point_limit = 10000

-- the records of a list's bytes, without a byte order mark
abbrev pub records_of : List ℕ → List Record
records_of bytes = records default_config (strip_bom bytes)

-- ---- what the columns of a record say, each with those that it depends on

unfoldable pub table_in : Record → Option Table
table_in r = table_of (field r 2)

-- the identifier of a model and the offset in it, where the address is by model
unfoldable pub model_in : Record → Option (ℕ × ℕ)
model_in r = table_in r then (λ table. model_of table (field r 3))

unfoldable pub address_in : Record → Option ℕ
address_in r = address_unless (model_in r) (field r 3)

unfoldable pub name_of_type_in : Record → Option PointType
name_of_type_in r = table_in r then (λ table. named_in table (field r 4))

unfoldable pub type_in : Record → Option PointType
type_in r = name_of_type_in r then (λ kind. sized kind (field r 5))

unfoldable pub scale_in : Record → Option ℤ
scale_in r = type_in r then (λ kind. scaled_by kind (field r 6))

unfoldable pub role_in : Record → Option Role
role_in r = table_in r then (λ table. type_in r then (λ kind. role_of table kind (field r 7)))

unfoldable pub roll_in : Record → Option ℕ
roll_in r = type_in r then (λ kind. role_in r then (λ role. roll_of kind role (field r 8)))

-- in a record without the column it is as where that is empty
unfoldable pub order_in : Record → Option WordOrder
order_in r = type_in r then (λ kind. order_of kind (field r 9))

-- whether the point ends by the last address
abbrev pub ends_in_time : Option ℕ → Option PointType → Bool
ends_in_time (Some address) (Some kind) = nat_le (address + (row kind).registers) 65536
ends_in_time _ _ = false

-- ---- the checks of a record

-- a check: whether the record passes, and the fault with its column if not
pub record Check : Type 0 where
  pub passes : Bool
  pub fault : ListFault
  pub column : ℕ

abbrev pub check : Bool → ListFault → ℕ → Check
check passes fault column = record { passes = passes; fault = fault; column = column }

-- Of a list with so many columns whose site knows these devices: how many fields there are, how many points stand before,
-- and where the point is
abbrev pub place_checks : ℕ → (List ℕ → Bool) → ℕ → Record → List Check
place_checks columns known before r =
    check (length r == columns) BadCsv 0
    ∷ check (nat_lt before point_limit) TooManyPoints 0
    ∷ check (is_name (field r 0)) BadName 1
    ∷ check (known (field r 1)) UnknownDevice 2
    ∷ check (is_some (table_in r)) BadTable 3
    ∷ check (is_some (address_in r)) BadAddress 4
    ∷ []

-- what the point means
abbrev pub meaning_checks : Record → List Check
meaning_checks r =
    check (not (is_left_out (field r 4))) LeftOutType 5
    ∷ check (is_some (name_of_type_in r)) BadType 5
    ∷ check (is_some (type_in r)) BadLength 6
    ∷ check (is_some (scale_in r)) BadScale 7
    ∷ check (is_some (role_in r)) BadRole 8
    ∷ check (is_some (roll_in r)) BadRoll 9
    ∷ check (is_some (order_in r)) BadWords 10
    ∷ []

-- the address range, and the name among those before
abbrev pub whole_checks : List (List ℕ) → Record → List Check
whole_checks names r =
    check (ends_in_time (address_in r) (type_in r)) BadAddress 4
    ∷ check (not (list_any (λ name. bytes_eq (field r 0) name) names)) Twice 1
    ∷ []

-- the first check that fails
abbrev pub first_failed : List Check → Option (ListFault × ℕ)
first_failed [] = None
first_failed (c ∷ cs) = if c.passes then first_failed cs else Some (c.fault, c.column)

-- the fault of a record below points of these names, if it has one
unfoldable pub fault_below : ℕ → (List ℕ → Bool) → List (List ℕ) → Record → Option (ListFault × ℕ)
fault_below columns known names r = first_failed (place_checks columns known (length names) r ++ (meaning_checks r ++ whole_checks names r))

-- the names of these rows
abbrev pub names_of : List ListRow → List (List ℕ)
names_of rows = map (λ (x : ListRow). x.point.name) rows

-- the names in these records
abbrev pub names_in : List Record → List (List ℕ)
names_in rs = map (λ r. field r 0) rs

-- the fault of a record below these records, if it has one
abbrev pub fault_of : ℕ → (List ℕ → Bool) → List Record → Record → Option (ListFault × ℕ)
fault_of columns known before r = fault_below columns known (names_in before) r

-- ---- the points

-- a record says this point
pub record Says (r : Record) (point : Point) : Type 0 where
  pub name : point.name ≡ field r 0
  pub device : point.device ≡ field r 1
  pub table : table_in r ≡ Some point.table
  pub address : address_in r ≡ Some point.address
  pub kind : type_in r ≡ Some point.kind
  pub scale : scale_in r ≡ Some point.scale
  pub role : role_in r ≡ Some point.role
  pub roll : roll_in r ≡ Some point.roll
  pub order : order_in r ≡ Some point.order

-- the record of this number says this row
pub record SaysRow (number : ℕ) (r : Record) (said : ListRow) : Type 0 where
  pub row : said.row ≡ number
  pub point : Says r said.point
  pub model : said.model ≡ model_in r

-- these records, of which the first has this number, say these rows
abbrev pub SayRows : ℕ → List Record → List ListRow → Type 0
SayRows number [] [] = Unit {0}
SayRows number (r ∷ rs) (x ∷ xs) = SaysRow number r x × SayRows (number + 1) rs xs
SayRows number rs xs = ⊥

-- ---- the list

-- each of the first records of the body is faultless below those before it
abbrev pub FaultlessBelow : ℕ → (List ℕ → Bool) → List Record → ℕ → Type 0
FaultlessBelow columns known body n = (k : ℕ) → k < n → fault_of columns known (take k body) (get_or body k []) ≡ None

-- these are the rows of a list of these records, each of which has as many fields as its header
pub record AreRows (edition : Edition) (known : List ℕ → Bool) (list : List Record) (rows : List ListRow) : Type 0 where
  pub first : Record
  pub body : List Record
  pub whole : list ≡ first ∷ body
  pub header : IsHeader edition first
  pub faultless : FaultlessBelow (length first) known body (length body)
  pub say : SayRows 2 body rows

-- the first fault of the first faulty record of the body, whose first record is the second of the list
pub record IsFirstInBody (columns : ℕ) (known : List ℕ → Bool) (body : List Record) (e : ListError) : Type 0 where
  pub place : ℕ
  pub within : place < length body
  pub faultless : FaultlessBelow columns known body place
  pub fault : fault_of columns known (take place body) (get_or body place []) ≡ Some (e.fault, e.column)
  pub row : e.row ≡ place + 2

-- the list has no header that the edition knows
pub record IsHeaderFault (edition : Edition) (list : List Record) (e : ListError) : Type 0 where
  pub fault : e.fault ≡ BadHeader
  pub row : e.row ≡ 1
  pub column : e.column ≡ 0
  pub missing : (first : Record) (body : List Record) → IsHeader edition first → list ≢ first ∷ body

-- the list has a header, and this is the first fault below it
pub record IsBodyFault (edition : Edition) (known : List ℕ → Bool) (list : List Record) (e : ListError) : Type 0 where
  pub first : Record
  pub body : List Record
  pub whole : list ≡ first ∷ body
  pub header : IsHeader edition first
  pub fault : IsFirstInBody (length first) known body e

-- the fault of a list
abbrev pub IsFaultOf : Edition → (List ℕ → Bool) → List Record → ListError → Type 0
IsFaultOf edition known list e = IsHeaderFault edition list e ⊎ IsBodyFault edition known list e

-- memory was refused
abbrev pub IsMemory : ListError → Type 0
IsMemory e = e ≡ record { fault = Memory; row = 0; column = 0 }
