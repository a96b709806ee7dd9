-- The table of point types (SunSpec Device Information Model, point types; which values mean
-- unimplemented is this project's profile).
use Rattle.std.specs.Prelude.{◌≤◌, ℕ, ◌*◌, Bool, false, true, List, [], ◌∷◌, Option, Some, None, ◌&&◌, ◌||◌, nat_le, ◌==◌, if◌then◌else◌, bytes_eq, codes, find}
use Rattle.sunspec.specs.declared.point_type.PointType.{PointType}
use Rattle.sunspec.specs.declared.point_type.PointType.TheVariants.{Int16, Uint16, Acc16, Enum16, Bitfield16, Sunssf, Int32, Uint32, Acc32, Enum32, Bitfield32, Int64, Uint64, Acc64, Ipaddr, Str, Bit}
use Rattle.sunspec.specs.declared.point_type.Row.{Row}
use Rattle.sunspec.specs.declared.point_type.Content.{Content}
use Rattle.sunspec.specs.declared.point_type.Content.TheVariants.{Signed, Unsigned, Address, Bit as Cell, Text}

-- what the table says of a type: the registers whose sum is `unimplemented` mean that there is no value; a counter may
-- have the type, its numbers are scaled, an order may set it
pub record TypeRow : Type 0 where
  pub code : ℕ
  pub name : List ℕ
  pub registers : ℕ
  pub content : Content
  pub unimplemented : Option ℕ
  pub counts : Bool
  pub scaled : Bool
  pub can_be_set : Bool

-- what a row of the code says
abbrev pub row_shown : Row → TypeRow
row_shown shown = record {
  code = shown.code;
  name = shown.name.now;
  registers = shown.registers;
  content = shown.content;
  unimplemented = shown.unimplemented;
  counts = shown.counts;
  scaled = shown.scaled;
  can_be_set = shown.can_be_set;
}

-- a type that is scaled, and neither counts nor can be set
abbrev pub plain : ℕ → List ℕ → ℕ → Content → Option ℕ → TypeRow
plain code name registers content unimplemented = record {
  code = code;
  name = name;
  registers = registers;
  content = content;
  unimplemented = unimplemented;
  counts = false;
  scaled = true;
  can_be_set = false;
}

abbrev pub counting : TypeRow → TypeRow
counting r = record r { counts = true }

abbrev pub unscaled : TypeRow → TypeRow
unscaled r = record r { scaled = false }

abbrev pub settable : TypeRow → TypeRow
settable r = record r { can_be_set = true }

unfoldable pub row : PointType → TypeRow
row Int16 = settable (plain 1 (codes "int16") 1 Signed (Some 0x8000))
row Uint16 = settable (counting (plain 2 (codes "uint16") 1 Unsigned (Some 0xFFFF)))
row Acc16 = counting (plain 3 (codes "acc16") 1 Unsigned (Some 0))
row Enum16 = settable (unscaled (plain 4 (codes "enum16") 1 Unsigned (Some 0xFFFF)))
row Bitfield16 = settable (unscaled (plain 5 (codes "bitfield16") 1 Unsigned (Some 0xFFFF)))
row Sunssf = unscaled (plain 6 (codes "sunssf") 1 Signed (Some 0x8000))
row Int32 = settable (plain 7 (codes "int32") 2 Signed (Some 0x8000_0000))
row Uint32 = settable (counting (plain 8 (codes "uint32") 2 Unsigned (Some 0xFFFF_FFFF)))
row Acc32 = counting (plain 9 (codes "acc32") 2 Unsigned (Some 0))
row Enum32 = settable (unscaled (plain 10 (codes "enum32") 2 Unsigned (Some 0xFFFF_FFFF)))
row Bitfield32 = settable (unscaled (plain 11 (codes "bitfield32") 2 Unsigned (Some 0xFFFF_FFFF)))
row Int64 = settable (plain 12 (codes "int64") 4 Signed (Some 0x8000_0000_0000_0000))
row Uint64 = settable (counting (plain 13 (codes "uint64") 4 Unsigned (Some 0xFFFF_FFFF_FFFF_FFFF)))
row Acc64 = counting (plain 14 (codes "acc64") 4 Unsigned (Some 0))
row Ipaddr = unscaled (plain 15 (codes "ipaddr") 2 Address (Some 0))
row (Str registers) = unscaled (plain 16 (codes "string") registers Text (Some 0))
row Bit = settable (unscaled (plain 17 (codes "bit") 1 Cell None))

-- the types by their codes, a string as that of one register
abbrev pub types : List PointType
types = Int16 ∷ Uint16 ∷ Acc16 ∷ Enum16 ∷ Bitfield16 ∷ Sunssf ∷ Int32 ∷ Uint32 ∷ Acc32 ∷ Enum32 ∷ Bitfield32 ∷ Int64 ∷ Uint64 ∷ Acc64 ∷ Ipaddr ∷ Str 1 ∷ Bit ∷ []

-- the type of a name, and that of a code
abbrev pub named : List ℕ → Option PointType
named name = find (λ kind. bytes_eq (row kind).name name) types

abbrev pub coded : ℕ → Option PointType
coded code = find (λ kind. (row kind).code == code) types

-- a string has 1 to 125 registers
abbrev pub IsSized : PointType → Type 0
IsSized (Str registers) = (1 ≤ registers) × (registers ≤ 125)
IsSized _ = Unit {0}

-- the type of the same name with so many registers
abbrev pub resized : PointType → ℕ → Option PointType
resized (Str _) registers = if nat_le 1 registers && nat_le registers 125 then Some (Str registers) else None
resized kind registers = if (row kind).registers == registers then Some kind else None

-- how many bits the numbers of a content have
abbrev pub bits : Content → ℕ → ℕ
bits Signed registers = 16 * registers
bits Unsigned registers = 16 * registers
bits Address registers = 16 * registers
bits Cell registers = 1
bits Text registers = 0

abbrev pub bits_of : PointType → ℕ
bits_of kind = bits (row kind).content (row kind).registers

-- whether registers can be sent with the least significant one first: those of a number that has two or four
abbrev pub swaps : Content → ℕ → Bool
swaps Text registers = false
swaps content registers = registers == 2 || registers == 4

abbrev pub can_be_swapped : PointType → Bool
can_be_swapped kind = swaps (row kind).content (row kind).registers

-- whether a sum of registers is that of a point which is not implemented
abbrev pub is_unimplemented : Option ℕ → ℕ → Bool
is_unimplemented None sum = false
is_unimplemented (Some number) sum = sum == number
