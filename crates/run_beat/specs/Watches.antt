-- Whether the clock on the wall can be followed: what both clocks showed again and again, the newest first, in
-- milliseconds, and slots of so many seconds.
use Rattle.std.specs.Prelude.{◌≡◌, ℕ, ◌+◌, ◌-◌, ◌*◌, Bool, false, nat_lt, if◌then◌else◌, List, [], ◌∷◌, Option, Some, None}
use Rattle.run_beat.specs.Times.{later}
use Rattle.run_beat.specs.declared.watch.Sight.{Sight}
use Rattle.run_beat.specs.declared.watch.Watch.{Watch}

-- by so much the clock may go on beyond what has passed: two slots, and a minute
abbrev pub leeway : ℕ → ℕ
leeway seconds = 2 * (seconds * 1000) + 60000

-- it went on by more than so much beyond what has passed
abbrev pub is_jump : ℕ → Sight → Sight → Bool
is_jump most earlier later = nat_lt (earlier.clock + (later.moment - earlier.moment) + most) later.clock

-- it jumped ahead as it was looked at last
abbrev pub has_jumped : ℕ → List Sight → Bool
has_jumped seconds (later ∷ earlier ∷ sights) = is_jump (leeway seconds) earlier later
has_jumped seconds _ = false

-- when it jumped ahead last
abbrev pub last_jump : ℕ → List Sight → Option ℕ
last_jump seconds [] = None
last_jump seconds (sight ∷ sights) = if has_jumped seconds (sight ∷ sights) then Some sight.moment else last_jump seconds sights

-- less than a minute has passed since a moment
abbrev pub is_within_a_minute : ℕ → Option ℕ → Bool
is_within_a_minute now None = false
is_within_a_minute now (Some moment) = nat_lt now (moment + 60000)

-- it is held: less than a minute ago it jumped ahead
abbrev pub is_held : ℕ → List Sight → ℕ → Bool
is_held seconds sights now = is_within_a_minute now (last_jump seconds sights)

-- a minute later than a moment
abbrev pub minute_from : Option ℕ → Option ℕ
minute_from None = None
minute_from (Some moment) = Some (later moment 60000)

-- when it is held no more, if it is held
abbrev pub held_until : ℕ → List Sight → ℕ → Option ℕ
held_until seconds sights now = if is_held seconds sights now then minute_from (last_jump seconds sights) else None

-- what was seen last
abbrev pub newest : List Sight → Option Sight
newest [] = None
newest (sight ∷ sights) = Some sight

-- a watch that has seen these
pub record IsWatch (seconds : ℕ) (sights : List Sight) (watch : Watch) : Type 0 where
  pub most : watch.most ≡ leeway seconds
  pub last : watch.last ≡ newest sights
  pub jumped : watch.jumped ≡ last_jump seconds sights
