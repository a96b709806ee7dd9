-- A device's four tables, each a finite map from addresses to numbers (Modbus Application Protocol V1.1b3, 4.3).
use Rattle.std.specs.Prelude.{◌≡◌, ℕ, ◌+◌, ◌-◌, ◌≤◌, ◌<◌, ◌&&◌, nat_eq, nat_le, nat_lt, List, [], ◌∷◌, length, map, replicate, slice_index, Option, Some, IsSome, All, ◌⊎◌, if◌then◌else◌}
use Rattle.std.specs.List.{enumerate_from}
use Rattle.std.specs.Map.{lookup}
use Rattle.mb_pdu.specs.declared.table.Table.{Table}
use Rattle.mb_pdu.specs.declared.table.Table.TheVariants.{Coil, Discrete, Input, Holding}

-- the cells of a table, by address
abbrev pub Cells : Type 0
Cells = List (ℕ × ℕ)

-- the number at an address, if the table has it
abbrev pub cell_at : ℕ → Cells → Option ℕ
cell_at address cells = lookup (nat_eq address) cells

-- so many cells from an address on, all zero
abbrev pub zeros : ℕ → ℕ → Cells
zeros start size = enumerate_from start (replicate size 0)

-- every address of a range is in the table
abbrev pub IsWhole : ℕ → ℕ → Cells → Type 0
IsWhole start quantity cells = (k : ℕ) → k < quantity → IsSome (cell_at (start + k) cells)

-- the cells from an address on hold these numbers
abbrev pub Holds : ℕ → List ℕ → Cells → Type 0
Holds start numbers cells = (k : ℕ) → k < length numbers → cell_at (start + k) cells ≡ Some (slice_index numbers k)

-- what an address holds after numbers were written from start on, where it held old
abbrev pub number_after : ℕ → List ℕ → ℕ → ℕ → ℕ
number_after start numbers address old =
    if nat_le start address && nat_lt address (start + length numbers) then slice_index numbers (address - start) else old

-- the cells after numbers were written from start on: those of the range are new, the others as before
unfoldable pub written : ℕ → List ℕ → Cells → Cells
written start numbers cells = map (λ (c : ℕ × ℕ). (c.0, number_after start numbers c.0 c.1)) cells

-- every cell holds 0 or 1
abbrev pub AreBits : Cells → Type 0
AreBits cells = All (λ (c : ℕ × ℕ). c.1 ≤ 1) cells

pub record Tables : Type 0 where
  pub coils : Cells
  pub discrete : Cells
  pub input : Cells
  pub holding : Cells

abbrev pub cells_of : Table → Tables → Cells
cells_of Coil tables = tables.coils
cells_of Discrete tables = tables.discrete
cells_of Input tables = tables.input
cells_of Holding tables = tables.holding

-- the tables with other cells in one of them
abbrev pub with_cells : Table → Cells → Tables → Tables
with_cells Coil cells tables = record tables { coils = cells }
with_cells Discrete cells tables = record tables { discrete = cells }
with_cells Input cells tables = record tables { input = cells }
with_cells Holding cells tables = record tables { holding = cells }

-- the tables with a number at an address of one of them
abbrev pub with_number : Table → ℕ → ℕ → Tables → Tables
with_number table address number tables = with_cells table (written address (number ∷ []) (cells_of table tables)) tables

-- the greatest number that a cell of the table may hold
abbrev pub greatest : Table → ℕ
greatest Coil = 1
greatest Discrete = 1
greatest Input = 65535
greatest Holding = 65535

-- tables of these starts and sizes, all zero
abbrev pub zero_tables : ℕ → ℕ → ℕ → ℕ → ℕ → ℕ → ℕ → ℕ → Tables
zero_tables coils_start coils discrete_start discrete holding_start holding input_start input = record {
  coils = zeros coils_start coils;
  discrete = zeros discrete_start discrete;
  input = zeros input_start input;
  holding = zeros holding_start holding;
}

-- one of four tables would pass the last address
abbrev pub IsTooLarge : ℕ → ℕ → ℕ → ℕ → ℕ → ℕ → ℕ → ℕ → Type 0
IsTooLarge coils_start coils discrete_start discrete holding_start holding input_start input =
    (65536 < coils_start + coils) ⊎ (65536 < discrete_start + discrete) ⊎ (65536 < holding_start + holding) ⊎ (65536 < input_start + input)

-- the table has the address, and its cells may hold the number
abbrev pub CanHold : Table → ℕ → ℕ → Tables → Type 0
CanHold table address number tables = IsSome (cell_at address (cells_of table tables)) × (number ≤ greatest table)
