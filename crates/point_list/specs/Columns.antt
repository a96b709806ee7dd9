-- What the columns of a point list may hold.
use Rattle.std.specs.Prelude.{ℕ, ◌+◌, ◌-◌, ◌^◌, ℤ, pos, List, [], ◌∷◌, take, drop, Bool, true, false, ◌&&◌, ◌||◌, ◌==◌, Option, Some, None, if◌then◌else◌, nat_le, codes, unwrap_or}
use Rattle.std.specs.List.{list_any, find, position}
use Rattle.std.specs.Str.{bytes_eq}
use Rattle.csv.specs.Records.{field_at}
use Rattle.mb_pdu.specs.declared.table.Table.{Table}
use Rattle.mb_pdu.specs.declared.table.Table.TheVariants.{Coil, Discrete, Input, Holding}
use Rattle.sunspec.specs.declared.point_type.PointType.{PointType}
use Rattle.sunspec.specs.declared.point_type.PointType.TheVariants.{Str, Bit}
use Rattle.sunspec.specs.PointType.{row, types, resized, bits_of, can_be_swapped}
use Rattle.sunspec.specs.Digits.{number_of, number_within, scale_of}
use Rattle.sunspec.specs.declared.word_order.WordOrder.{WordOrder}
use Rattle.sunspec.specs.declared.word_order.WordOrder.TheVariants.{Big, Swapped}
use Rattle.point_list.specs.declared.point.Role.{Role}
use Rattle.point_list.specs.declared.point.Role.TheVariants.{Gauge, Counter, Setting}
use Rattle.point_list.specs.Label.{is_label}
use Rattle.point_list.specs.declared.site.Site.{Site}
use Rattle.point_list.specs.declared.site.Device.{Device}

-- a record, by its fields
abbrev pub Record : Type 0
Record = List (List ℕ)

-- the field of a record at a place, from 0
abbrev pub field : Record → ℕ → List ℕ
field r i = unwrap_or (field_at r i) []

infixl 10 ◌then◌
abbrev pub ◌then◌ : {A B : Type 0} → Option A → (A → Option B) → Option B
(Some x) then f = f x
None then f = None

-- ---- columns 2 to 4: device, table, address

-- a device of the site, by a name that a point can have
abbrev pub is_device : Site → List ℕ → Bool
is_device site text = is_label text && list_any (λ (d : Device). bytes_eq text d.name) site.devices

abbrev pub table_of : List ℕ → Option Table
table_of text =
    if bytes_eq text (codes "coil") then Some Coil
    else if bytes_eq text (codes "discrete") then Some Discrete
    else if bytes_eq text (codes "input") then Some Input
    else if bytes_eq text (codes "holding") then Some Holding
    else None

abbrev pub address_of : List ℕ → Option ℕ
address_of text = number_of 5 65535 text

-- the identifier of a model; 65,535 is that of the end
abbrev pub model_id_of : List ℕ → Option ℕ
model_id_of text = number_of 5 65534 text then (λ id. if nat_le 1 id then Some id else None)

-- an identifier and an offset with a plus between them
unfoldable pub parts_of : List ℕ → Option (ℕ × ℕ)
parts_of text =
    position (λ byte. byte == 43) text then (λ at. model_id_of (take at text) then (λ id.
    number_of 5 65535 (drop (at + 1) text) then (λ offset. Some (id, offset))))

-- behind an m
abbrev pub by_model : List ℕ → Option (ℕ × ℕ)
by_model [] = None
by_model (first ∷ text) = if first == 109 then parts_of text else None

-- the place by model that an address of holding registers may be: identifier and offset
abbrev pub model_of : Table → List ℕ → Option (ℕ × ℕ)
model_of Holding text = by_model text
model_of table text = None

-- an address by model is 0 until the site says where the model is
abbrev pub address_unless : Option (ℕ × ℕ) → List ℕ → Option ℕ
address_unless (Some place) text = Some 0
address_unless None text = address_of text

-- ---- columns 5 and 6: type and length

-- SunSpec's types that the office leaves out
abbrev pub left_out : List (List ℕ)
left_out =
    codes "float32" ∷ codes "float64" ∷ codes "eui48" ∷ codes "ipv6addr"
    ∷ codes "count" ∷ codes "raw16" ∷ codes "pad" ∷ []

abbrev pub is_left_out : List ℕ → Bool
is_left_out text = list_any (λ name. bytes_eq text name) left_out

-- the tables of single bits
abbrev pub holds_bits : Table → Bool
holds_bits Coil = true
holds_bits Discrete = true
holds_bits _ = false

abbrev pub is_bit : PointType → Bool
is_bit Bit = true
is_bit _ = false

abbrev pub same : Bool → Bool → Bool
same true b = b
same false true = false
same false false = true

-- a bit stands exactly in the tables of bits
abbrev pub in_table : Table → PointType → Option PointType
in_table table kind = if same (holds_bits table) (is_bit kind) then Some kind else None

-- the type of a name in a table, a string as one of one register
unfoldable pub named_in : Table → List ℕ → Option PointType
named_in table text = find (λ (kind : PointType). bytes_eq (row kind).name text) types then in_table table

-- a string has a length, every other type its own
abbrev pub unsized : PointType → Option PointType
unsized (Str _) = None
unsized kind = Some kind

unfoldable pub sized : PointType → List ℕ → Option PointType
sized kind [] = unsized kind
sized kind text = number_within 125 text then resized kind

-- ---- column 7: scale

-- the types whose numbers may be scaled
abbrev pub is_scaled : PointType → Bool
is_scaled kind = (row kind).scaled

-- an empty scale is 0
abbrev pub scale_in : List ℕ → Option ℤ
scale_in [] = Some (pos 0)
scale_in text = scale_of text

abbrev pub is_zero : ℤ → Bool
is_zero (pos n) = n == 0
is_zero _ = false

unfoldable pub scaled_by : PointType → List ℕ → Option ℤ
scaled_by kind text = scale_in text then (λ scale. if is_scaled kind || is_zero scale then Some scale else None)

-- ---- columns 8 and 9: role and roll

-- the types that count
abbrev pub can_count : PointType → Bool
can_count kind = (row kind).counts

-- the types and tables that orders set
abbrev pub can_be_written : Table → Bool
can_be_written Coil = true
can_be_written Holding = true
can_be_written _ = false

abbrev pub can_be_set : PointType → Bool
can_be_set kind = (row kind).can_be_set

abbrev pub role_name : Role → List ℕ
role_name Gauge = codes "gauge"
role_name Counter = codes "counter"
role_name Setting = codes "setting"

-- the role of a text, as far as the table and the type can have it
unfoldable pub role_of : Table → PointType → List ℕ → Option Role
role_of table kind text =
    if bytes_eq text (codes "gauge") then Some Gauge
    else if bytes_eq text (codes "counter") then (if can_count kind then Some Counter else None)
    else if bytes_eq text (codes "setting") then (if can_be_written table && can_be_set kind then Some Setting else None)
    else None

-- the greatest number of a type's bits
abbrev pub greatest_of : PointType → ℕ
greatest_of kind = 2 ^ bits_of kind - 1

abbrev pub roll_given : ℕ → List ℕ → Option ℕ
roll_given greatest [] = Some greatest
roll_given greatest text = number_of 20 greatest text then (λ roll. if nat_le 1 roll then Some roll else None)

-- a counter's roll, the greatest number of its bits where none is given; other points have none
unfoldable pub roll_of : PointType → Role → List ℕ → Option ℕ
roll_of kind Counter text = roll_given (greatest_of kind) text
roll_of kind role [] = Some 0
roll_of kind role text = None

-- ---- column 10, which a list may have: the order of the registers

-- the order of a text, as far as the type can have it; the most significant register first where none is given
unfoldable pub order_of : PointType → List ℕ → Option WordOrder
order_of kind [] = Some Big
order_of kind text =
    if bytes_eq text (codes "big") then Some Big
    else if bytes_eq text (codes "swapped") then (if can_be_swapped kind then Some Swapped else None)
    else None
