-- Moments as texts in UTC, to the second (RFC 3339).
use Rattle.std.specs.Prelude.{◌≡◌, ℕ, ◌*◌, ℤ, pos, List, ◌++◌, codes, Option, Some, None}
use Rattle.jiff_core.specs.declared.civil.datetime.DateTime.{DateTime}
use Rattle.jiff.specs.Words.{IsTimestampNanos, civil_nanos, iso_datetime_text}

-- so many seconds after 1970 began, in nanoseconds
abbrev pub nanos : ℕ → ℤ
nanos seconds = pos (seconds * 1_000_000_000)

-- the date and the time of day then
abbrev pub IsMoment : ℕ → DateTime → Type 0
IsMoment seconds moment = civil_nanos moment ≡ nanos seconds

-- later than the last moment that has a text, in the year 9999
abbrev pub IsPast : ℕ → Type 0
IsPast seconds = ¬ IsTimestampNanos (nanos seconds)

-- the date and the time of day, and a Z for UTC
abbrev pub IsTimeText : ℕ → Option (List ℕ) → Type 0
IsTimeText seconds None = IsPast seconds
IsTimeText seconds (Some text) = (moment : DateTime) × IsMoment seconds moment × (text ≡ iso_datetime_text moment ++ codes "Z")
