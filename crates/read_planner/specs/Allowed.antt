-- Which reads are allowed, and which points they hold (Modbus Application Protocol V1.1b3, sections 6.1 to 6.4).
use Rattle.std.specs.Prelude.{◌≡◌, ℕ, ◌+◌, ◌<◌, ◌≤◌, List, All, Any, length, true}
use Rattle.read_planner.specs.declared.Read.{Read}
use Rattle.read_planner.specs.declared.place.Place.{Place}
use Rattle.read_planner.specs.Read.{is_valid_read, end_of}
use Rattle.read_planner.specs.Place.{Occupies}

-- one of these points has an address of the function's table
abbrev pub IsTaken : List Place → ℕ → ℕ → Type 0
IsTaken places function address = Any (λ (place : Place). Occupies place function address) places

-- this address or one of so many after it is a point's
abbrev pub IsBridged : List Place → ℕ → ℕ → ℕ → Type 0
IsBridged places gap function address = (step : ℕ) × (step ≤ gap) × IsTaken places function (address + step)

-- At least 1 and at most 125 registers or 2,000 bits, up to address 65,535 at most, and of any gap + 1 neighbouring addresses one is a point's.
pub record IsAllowed (places : List Place) (gap : ℕ) (read : Read) : Type 0 where
  pub valid : is_valid_read read ≡ true
  pub inside : end_of read ≤ 65536
  pub bridged : (address : ℕ) → read.span.start ≤ address → address + gap < end_of read → IsBridged places gap read.function address

-- the point lies whole in the read
pub record HoldsWhole (read : Read) (place : Place) : Type 0 where
  pub function : read.function ≡ place.function
  pub start : read.span.start ≤ place.start
  pub end : place.end ≤ end_of read

abbrev pub IsHeld : List Read → Place → Type 0
IsHeld reads place = Any (λ (read : Read). HoldsWhole read place) reads

-- each point lies whole in one of the reads
abbrev pub HoldsAll : List Read → List Place → Type 0
HoldsAll reads places = All (IsHeld reads) places

abbrev pub AreAllowed : List Place → ℕ → List Read → Type 0
AreAllowed places gap reads = All (IsAllowed places gap) reads

-- no list of allowed reads that holds all points is shorter
abbrev pub AreFewest : List Place → ℕ → List Read → Type 0
AreFewest places gap reads = (others : List Read) → AreAllowed places gap others → HoldsAll others places → length reads ≤ length others
