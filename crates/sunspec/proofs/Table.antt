-- What the table says of every type.
use Rattle.std.proofs.Common.{◌≡◌, ◌≢◌, ◌<◌, ◌≤◌, ◌↔◌, ℕ, List, [], ◌∷◌, length, get_or, Some, refl, arith}
use Rattle.sunspec.specs.PointType.{TypeRow, row, bits, bits_of, IsSized}
use Rattle.sunspec.specs.Value.{AreRegistersOf, register_sum}
use Rattle.sunspec.specs.declared.point_type.PointType.{PointType}
use Rattle.sunspec.specs.declared.point_type.PointType.TheVariants.{Int16, Uint16, Acc16, Enum16, Bitfield16, Sunssf, Int32, Uint32, Acc32, Enum32, Bitfield32, Int64, Uint64, Acc64, Ipaddr, Str, Bit}
use Rattle.sunspec.specs.declared.point_type.Content.{Content}
use Rattle.sunspec.specs.declared.point_type.Content.TheVariants.{Signed, Unsigned, Address, Bit as Cell, Text}

-- a number has 1 to 4 registers; a text is not implemented where its registers are zero
pub record IsTableRow (r : TypeRow) : Type 0 where
  pub some : r.content ≢ Text → 0 < r.registers
  pub few : r.content ≢ Text → r.registers ≤ 4
  pub zero : r.content ≡ Text → r.unimplemented ≡ Some 0

number_row : (r : TypeRow) → r.content ≢ Text → 0 < r.registers → r.registers ≤ 4 → IsTableRow r
number_row r number some few = record { some = λ _. some; few = λ _. few; zero = λ text. absurd (number text) }

pub in_table : (kind : PointType) → IsTableRow (row kind)
unfolding row
in_table Int16 = number_row _ (λ h. cc) (omega arith) (omega arith)
in_table Uint16 = number_row _ (λ h. cc) (omega arith) (omega arith)
in_table Acc16 = number_row _ (λ h. cc) (omega arith) (omega arith)
in_table Enum16 = number_row _ (λ h. cc) (omega arith) (omega arith)
in_table Bitfield16 = number_row _ (λ h. cc) (omega arith) (omega arith)
in_table Sunssf = number_row _ (λ h. cc) (omega arith) (omega arith)
in_table Int32 = number_row _ (λ h. cc) (omega arith) (omega arith)
in_table Uint32 = number_row _ (λ h. cc) (omega arith) (omega arith)
in_table Acc32 = number_row _ (λ h. cc) (omega arith) (omega arith)
in_table Enum32 = number_row _ (λ h. cc) (omega arith) (omega arith)
in_table Bitfield32 = number_row _ (λ h. cc) (omega arith) (omega arith)
in_table Int64 = number_row _ (λ h. cc) (omega arith) (omega arith)
in_table Uint64 = number_row _ (λ h. cc) (omega arith) (omega arith)
in_table Acc64 = number_row _ (λ h. cc) (omega arith) (omega arith)
in_table Ipaddr = number_row _ (λ h. cc) (omega arith) (omega arith)
in_table (Str registers) = record { some = λ number. absurd (number refl); few = λ number. absurd (number refl); zero = λ _. refl }
in_table Bit = number_row _ (λ h. cc) (omega arith) (omega arith)

-- a string has 125 registers at most, and so has every type
pub short_row : (kind : PointType) → IsSized kind → (row kind).registers ≤ 125
unfolding row
short_row (Str registers) sized = sized.1
short_row Int16 sized = omega arith
short_row Uint16 sized = omega arith
short_row Acc16 sized = omega arith
short_row Enum16 sized = omega arith
short_row Bitfield16 sized = omega arith
short_row Sunssf sized = omega arith
short_row Int32 sized = omega arith
short_row Uint32 sized = omega arith
short_row Acc32 sized = omega arith
short_row Enum32 sized = omega arith
short_row Bitfield32 sized = omega arith
short_row Int64 sized = omega arith
short_row Uint64 sized = omega arith
short_row Acc64 sized = omega arith
short_row Ipaddr sized = omega arith
short_row Bit sized = omega arith

few_bits_in : (content : Content) (registers : ℕ) → (content ≢ Text → registers ≤ 4) → bits content registers ≤ 64
few_bits_in Signed registers few = let h : registers ≤ 4 = few (λ e. cc) in omega arith
few_bits_in Unsigned registers few = let h : registers ≤ 4 = few (λ e. cc) in omega arith
few_bits_in Address registers few = let h : registers ≤ 4 = few (λ e. cc) in omega arith
few_bits_in Cell registers few = omega arith
few_bits_in Text registers few = omega arith

-- a number has at most 64 bits
pub few_bits : (kind : PointType) → bits_of kind ≤ 64
few_bits kind = few_bits_in (row kind).content (row kind).registers (in_table kind).few

-- and at least one
pub some_bits_in : (content : Content) (registers : ℕ) → content ≢ Text → 0 < registers → 0 < bits content registers
some_bits_in Signed registers number some = omega arith
some_bits_in Unsigned registers number some = omega arith
some_bits_in Address registers number some = omega arith
some_bits_in Cell registers number some = omega arith
some_bits_in Text registers number some = absurd (number refl)

pub some_bits : (kind : PointType) → (row kind).content ≢ Text → 0 < bits_of kind
some_bits kind number = some_bits_in (row kind).content (row kind).registers number ((in_table kind).some number)

-- an address has four bytes
pub address_row : (kind : PointType) → (row kind).content ≡ Address → (row kind).registers ≡ 2
unfolding row
address_row Int16 e = cc
address_row Uint16 e = cc
address_row Acc16 e = cc
address_row Enum16 e = cc
address_row Bitfield16 e = cc
address_row Sunssf e = cc
address_row Int32 e = cc
address_row Uint32 e = cc
address_row Acc32 e = cc
address_row Enum32 e = cc
address_row Bitfield32 e = cc
address_row Int64 e = cc
address_row Uint64 e = cc
address_row Acc64 e = cc
address_row Ipaddr e = refl
address_row (Str registers) e = cc
address_row Bit e = cc

-- a cell is one
pub cell_row : (kind : PointType) → (row kind).content ≡ Cell → (row kind).registers ≡ 1
unfolding row
cell_row Int16 e = cc
cell_row Uint16 e = cc
cell_row Acc16 e = cc
cell_row Enum16 e = cc
cell_row Bitfield16 e = cc
cell_row Sunssf e = cc
cell_row Int32 e = cc
cell_row Uint32 e = cc
cell_row Acc32 e = cc
cell_row Enum32 e = cc
cell_row Bitfield32 e = cc
cell_row Int64 e = cc
cell_row Uint64 e = cc
cell_row Acc64 e = cc
cell_row Ipaddr e = cc
cell_row (Str registers) e = cc
cell_row Bit e = refl

-- every type has some register
pub some_registers : (kind : PointType) → IsSized kind → 0 < (row kind).registers
unfolding row
some_registers (Str registers) sized = omega (arith, sized.0)
some_registers Int16 sized = omega arith
some_registers Uint16 sized = omega arith
some_registers Acc16 sized = omega arith
some_registers Enum16 sized = omega arith
some_registers Bitfield16 sized = omega arith
some_registers Sunssf sized = omega arith
some_registers Int32 sized = omega arith
some_registers Uint32 sized = omega arith
some_registers Acc32 sized = omega arith
some_registers Enum32 sized = omega arith
some_registers Bitfield32 sized = omega arith
some_registers Int64 sized = omega arith
some_registers Uint64 sized = omega arith
some_registers Acc64 sized = omega arith
some_registers Ipaddr sized = omega arith
some_registers Bit sized = omega arith

-- a bit is the one type of a cell
not_cell : (kind : PointType) → kind ≢ Bit → (row kind).content ≢ Cell
unfolding row
not_cell Int16 other e = cc
not_cell Uint16 other e = cc
not_cell Acc16 other e = cc
not_cell Enum16 other e = cc
not_cell Bitfield16 other e = cc
not_cell Sunssf other e = cc
not_cell Int32 other e = cc
not_cell Uint32 other e = cc
not_cell Acc32 other e = cc
not_cell Enum32 other e = cc
not_cell Bitfield32 other e = cc
not_cell Int64 other e = cc
not_cell Uint64 other e = cc
not_cell Acc64 other e = cc
not_cell Ipaddr other e = cc
not_cell (Str registers) other e = cc
not_cell Bit other e = other refl

pub others_count : (kind : PointType) (words : List ℕ) → kind ≢ Bit → AreRegistersOf kind words ↔ (length words ≡ (row kind).registers)
others_count kind words other = ((λ are. are.count), (λ count. record { count = count; cell = λ e. absurd (not_cell kind other e) }))

cell_sum : (words : List ℕ) → length words ≡ 1 → register_sum words ≡ get_or words 0 0
cell_sum [] one = absurd (omega arith)
cell_sum (word ∷ []) one = omega arith
cell_sum (word ∷ next ∷ words) one = absurd (omega arith)

pub bit_is : (words : List ℕ) → AreRegistersOf Bit words ↔ ((length words ≡ 1) × (get_or words 0 0 ≤ 1))
unfolding row
bit_is words = (
  (λ are. (are.count, rw (← cell_sum words are.count) (are.cell refl))),
  (λ fits. record { count = fits.0; cell = λ e. rw (cell_sum words fits.0) fits.1 }),
)
