-- What the walk over points in order owes.
use Rattle.std.specs.Prelude.{◌≡◌, ◌⊎◌, ℕ, ◌+◌, ◌<◌, ◌≤◌, min, List, [], ◌∷◌, All, Any, Bool, ◌&&◌, ◌==◌, nat_le}
use Rattle.read_planner.specs.declared.Read.{Read}
use Rattle.read_planner.specs.declared.place.Place.{Place}
use Rattle.read_planner.specs.Read.{IsReadFunction, limit_of}
use Rattle.read_planner.specs.Allowed.{IsBridged, AreAllowed, HoldsAll}
use Rattle.read_planner.specs.Chosen.{IsUpTo, AreChosen}

-- a place that an allowed read can hold
pub record IsPlace (place : Place) : Type 0 where
  pub function : IsReadFunction place.function
  pub some : place.start < place.end
  pub fits : place.end ≤ place.start + limit_of place.function
  pub inside : place.end ≤ 65536

-- by function, then by start
abbrev pub AreInOrder : List Place → Type 0
AreInOrder [] = Unit {0}
AreInOrder (place ∷ places) = All (IsUpTo place) places × AreInOrder places

-- no read from the start of this place goes on beyond
abbrev pub bound_of : Place → ℕ
bound_of first = min (first.start + limit_of first.function) 65536

-- a read of this function that reaches so far holds what begins with it or later
abbrev pub ends_by : ℕ → ℕ → Place → Bool
ends_by function end place = (place.function == function) && nat_le place.end end

-- the gaps from the first place on are bridged up to `reach`, and of the places that it reaches the last to end in time ends at `end`
pub record IsReached (first : Place) (reach end : ℕ) (place : Place) : Type 0 where
  pub function : place.function ≡ first.function
  pub reached : place.end ≤ reach
  pub in_time : place.end ≤ bound_of first → place.end ≤ end

-- it has another function, or no read from the first place on gets so far
abbrev pub IsBeyond : Place → ℕ → ℕ → Place → Type 0
IsBeyond first gap reach place = (first.function < place.function) ⊎ ((bound_of first ≤ place.start) ⊎ (reach + gap < place.start))

-- the first place and those that follow it in order are bridged up to `reach`
pub record Reaches (first : Place) (places : List Place) (gap reach end : ℕ) : Type 0 where
  pub first_end : first.end ≤ reach
  pub inside : reach ≤ 65536
  pub within : end ≤ reach
  pub fits : end ≤ bound_of first
  pub bridged : (address : ℕ) → first.start ≤ address → address < reach → IsBridged (first ∷ places) gap first.function address
  pub last : Any (λ (place : Place). (place.function ≡ first.function) × (place.end ≡ end)) (first ∷ places)
  pub first_in : first.end ≤ end

-- where the read from the first place on ends
pub record IsReadEnd (first : Place) (places : List Place) (gap end : ℕ) : Type 0 where
  pub reach : ℕ
  pub reaches : Reaches first places gap reach end
  pub sorted : All (λ (place : Place). IsReached first reach end place ⊎ IsBeyond first gap reach place) places

-- the chosen list of reads
pub record IsPlan (places : List Place) (gap : ℕ) (reads : List Read) : Type 0 where
  pub allowed : AreAllowed places gap reads
  pub whole : HoldsAll reads places
  pub chosen : AreChosen places gap reads
