-- What an office that was only asked has told, and the slots in which a counter is counted.
use Rattle.std.specs.Prelude.{◌≡◌, ◌⊎◌, ◌<◌, ◌-◌, ℕ, Bool, true, false, is_some, Option, Some, None}
use Rattle.poll_book.specs.declared.keeper.Neighbours.{Ghosts}
use Rattle.poll_book.specs.Orders.{point_at}
use Rattle.poll_book.specs.Tables.{Tables}
use Rattle.office_core.specs.declared.office.Office.{Office}
use Rattle.office_core.specs.History.{History, points}
use Rattle.office_core.specs.Offices.{keeper_of, value_after_at}
use Rattle.office_core.specs.Following.{Follows, MayLeave, Stays}

-- nothing happened, and this holds of each history that was followed
pub record Learns (stood stands : History → Type 0) (might may : Tables → Type 0) (holds : History → Type 0) : Type 0 where
  pub stays : Stays stood stands might may
  pub known : (now : History) → stood now → holds now

-- an office was asked, and told this of its history, unless its keeper failed to undo a change
abbrev pub Learnt : {K : Type 0} {g : Ghosts K} → Office K g → Office K g → (History → Type 0) → Type 0
Learnt {g = g} old new holds =
    g.is_clean (keeper_of new) → g.is_clean (keeper_of old) × Learns (Follows old) (Follows new) (MayLeave old) (MayLeave new) holds

-- the counter of a number is counted in some slot behind one
abbrev pub is_counted_after : History → ℕ → ℕ → Bool
is_counted_after now number slot = is_some (value_after_at now (point_at (points now) number) slot)

-- it isn't, or no slot is behind it
abbrev pub IsUncountedAfter : History → ℕ → ℕ → Type 0
IsUncountedAfter now number slot = (is_counted_after now number slot ≡ false) ⊎ (slot ≡ 4294967295)

-- it is counted behind one slot, and in none behind another
abbrev pub IsCountedBetween : History → ℕ → ℕ → ℕ → Type 0
IsCountedBetween now number low high = (is_counted_after now number low ≡ true) × IsUncountedAfter now number high

-- the last slot behind one in which it is counted, or none
abbrev pub IsLastCounted : History → ℕ → ℕ → Option ℕ → Type 0
IsLastCounted now number after None = IsUncountedAfter now number after
IsLastCounted now number after (Some last) = (after < last) × IsCountedBetween now number (last - 1) last
