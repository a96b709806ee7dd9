-- Where points of known types lie.
use Rattle.std.proofs.Common.{◌≤◌, ◌+◌, ℕ, List, arith}
use Rattle.std.specs.Prelude.{All}
use Rattle.std.proofs.lemmas.List.Elements.{All-map}
use Rattle.mb_pdu.specs.declared.table.Table.{Table}
use Rattle.mb_pdu.specs.declared.table.Table.TheVariants.{Coil, Discrete, Holding, Input}
use Rattle.sunspec.specs.declared.point_type.PointType.{PointType}
use Rattle.sunspec.specs.declared.point_type.PointType.TheVariants.{Int16, Uint16, Acc16, Enum16, Bitfield16, Sunssf, Int32, Uint32, Acc32, Enum32, Bitfield32, Int64, Uint64, Acc64, Ipaddr, Str, Bit}
use Rattle.sunspec.specs.PointType.{IsSized, row}
use Rattle.point_list.specs.declared.point.Point.{Point}
use Rattle.read_planner.specs.Place.{CanBeRead, function_of, size_in, place_of, places_of}
use Rattle.read_planner.specs.Walk.{IsPlace}

-- a type has 1 to 125 registers
registers_of : (kind : PointType) → IsSized kind → (1 ≤ (row kind).registers) × ((row kind).registers ≤ 125)
unfolding row
registers_of (Str registers) sized = sized
registers_of Int16 sized = (omega arith, omega arith)
registers_of Uint16 sized = (omega arith, omega arith)
registers_of Acc16 sized = (omega arith, omega arith)
registers_of Enum16 sized = (omega arith, omega arith)
registers_of Bitfield16 sized = (omega arith, omega arith)
registers_of Sunssf sized = (omega arith, omega arith)
registers_of Int32 sized = (omega arith, omega arith)
registers_of Uint32 sized = (omega arith, omega arith)
registers_of Acc32 sized = (omega arith, omega arith)
registers_of Enum32 sized = (omega arith, omega arith)
registers_of Bitfield32 sized = (omega arith, omega arith)
registers_of Int64 sized = (omega arith, omega arith)
registers_of Uint64 sized = (omega arith, omega arith)
registers_of Acc64 sized = (omega arith, omega arith)
registers_of Ipaddr sized = (omega arith, omega arith)
registers_of Bit sized = (omega arith, omega arith)

-- a point of so many registers lies where an allowed read can hold it
placed : (table : Table) (registers address : ℕ) → 1 ≤ registers → registers ≤ 125 → address + size_in table registers ≤ 65536
    → IsPlace (record { function = function_of table; start = address; end = address + size_in table registers })
placed Coil registers address some few inside = record { function = (omega arith, omega arith); some = omega arith; fits = omega arith; inside = inside }
placed Discrete registers address some few inside = record { function = (omega arith, omega arith); some = omega arith; fits = omega arith; inside = inside }
placed Holding registers address some few inside = record { function = (omega arith, omega arith); some = omega arith; fits = omega arith; inside = inside }
placed Input registers address some few inside = record { function = (omega arith, omega arith); some = omega arith; fits = omega arith; inside = inside }

-- an allowed read can hold each of the points
pub all_placed : (points : List Point) → All CanBeRead points → All IsPlace (places_of points)
all_placed points each =
    All-map IsPlace place_of points
    (λ k d lt.
    let is = each k d lt in
    let r = registers_of _ is.sized in
    placed _ _ _ r.0 r.1 is.inside)
