-- Slots by the clock: times in milliseconds since 1970, the length of a slot in seconds.
use Rattle.std.specs.Prelude.{ℕ, ◌*◌, ◌/◌}

-- the slot at a time
abbrev pub slot : ℕ → ℕ → ℕ
slot time seconds = time / (seconds * 1000)

-- when a slot begins
abbrev pub begins : ℕ → ℕ → ℕ
begins slot seconds = slot * (seconds * 1000)
