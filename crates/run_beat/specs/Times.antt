-- Moments, in milliseconds.
use Rattle.std.specs.Prelude.{ℕ, ◌+◌, ◌-◌, ◌^◌, min}

-- the moment so many milliseconds later, or the last one
abbrev pub later : ℕ → ℕ → ℕ
later moment millis = min (moment + millis) (2 ^ 64 - 1)
