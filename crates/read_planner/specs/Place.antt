-- Where points lie: the function that reads them, and their addresses.
use Rattle.std.specs.Prelude.{◌≡◌, ℕ, ◌+◌, ◌<◌, ◌≤◌, List, map}
use Rattle.mb_pdu.specs.declared.table.Table.{Table}
use Rattle.mb_pdu.specs.declared.table.Table.TheVariants.{Coil, Discrete, Holding, Input}
use Rattle.sunspec.specs.PointType.{IsSized, row}
use Rattle.point_list.specs.declared.point.Point.{Point}
use Rattle.read_planner.specs.declared.place.Place.{Place}

-- the function that reads a table
abbrev pub function_of : Table → ℕ
function_of Coil = 1
function_of Discrete = 2
function_of Holding = 3
function_of Input = 4

-- how many addresses of a table a point of so many registers holds: of single bits it holds one
abbrev pub size_in : Table → ℕ → ℕ
size_in Coil registers = 1
size_in Discrete registers = 1
size_in Holding registers = registers
size_in Input registers = registers

abbrev pub size_of : Point → ℕ
size_of point = size_in point.table (row point.kind).registers

-- a point whose type has 1 to 125 registers, and which ends by the last address
pub record CanBeRead (point : Point) : Type 0 where
  pub sized : IsSized point.kind
  pub inside : point.address + size_of point ≤ 65536

-- the end is the address after the last
abbrev pub place_of : Point → Place
place_of point = record { function = function_of point.table; start = point.address; end = point.address + size_of point }

abbrev pub places_of : List Point → List Place
places_of points = map place_of points

-- an address of a table is one of the point's
pub record Occupies (place : Place) (function address : ℕ) : Type 0 where
  pub table : place.function ≡ function
  pub from : place.start ≤ address
  pub below : address < place.end
