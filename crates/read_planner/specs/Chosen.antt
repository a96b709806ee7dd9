-- Which of the shortest lists of reads is chosen.
use Rattle.std.specs.Prelude.{◌≡◌, ◌⊎◌, ℕ, ◌<◌, ◌≤◌, List, [], ◌∷◌, ◌++◌, All, Any, Contains}
use Rattle.read_planner.specs.declared.Read.{Read}
use Rattle.read_planner.specs.declared.place.Place.{Place}
use Rattle.read_planner.specs.Read.{end_of}
use Rattle.read_planner.specs.Allowed.{IsAllowed, HoldsWhole, IsHeld}

-- by function, then by start
abbrev pub IsUpTo : Place → Place → Type 0
IsUpTo one other = (one.function < other.function) ⊎ ((one.function ≡ other.function) × (one.start ≤ other.start))

-- of the points that these reads don't hold, none begins sooner
pub record IsFirstLeft (places : List Place) (reads : List Read) (first : Place) : Type 0 where
  pub among : Contains places first
  pub left : IsHeld reads first → ⊥
  pub least : (other : Place) → Contains places other → (IsHeld reads other → ⊥) → IsUpTo first other

-- no allowed read of this function from this start on is longer
pub record IsLongest (places : List Place) (gap : ℕ) (longest : Read) : Type 0 where
  pub allowed : IsAllowed places gap longest
  pub greatest : (other : Read) → IsAllowed places gap other → other.function ≡ longest.function → other.span.start ≡ longest.span.start → other.span.quantity ≤ longest.span.quantity

-- the greatest end of a point that lies whole in the read
pub record IsLastEnd (places : List Place) (read : Read) (end : ℕ) : Type 0 where
  pub some : Any (λ (place : Place). HoldsWhole read place × (place.end ≡ end)) places
  pub greatest : All (λ (place : Place). HoldsWhole read place → place.end ≤ end) places

-- It begins with the first point that the earlier reads leave, and ends with the last end of a point in the longest allowed read from there.
pub record IsNext (places : List Place) (gap : ℕ) (earlier : List Read) (read : Read) : Type 0 where
  pub first : Place
  pub begins : IsFirstLeft places earlier first
  pub longest : Read
  pub is_longest : IsLongest places gap longest
  pub function : (read.function ≡ first.function) × (longest.function ≡ first.function)
  pub start : (read.span.start ≡ first.start) × (longest.span.start ≡ first.start)
  pub ends : IsLastEnd places longest (end_of read)

-- each of the later reads is the next after those before it
abbrev pub AreNext : List Place → ℕ → List Read → List Read → Type 0
AreNext places gap earlier [] = Unit {0}
AreNext places gap earlier (read ∷ later) = IsNext places gap earlier read × AreNext places gap (earlier ++ read ∷ []) later

abbrev pub AreChosen : List Place → ℕ → List Read → Type 0
AreChosen places gap reads = AreNext places gap [] reads
