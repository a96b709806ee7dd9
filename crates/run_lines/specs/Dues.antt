-- When something is due.
use Rattle.std.specs.Prelude.{ℕ, min, Option, Some, None}

-- the earlier of two moments, where there are any
abbrev pub earlier : Option ℕ → Option ℕ → Option ℕ
earlier None other = other
earlier (Some one) None = Some one
earlier (Some one) (Some other) = Some (min one other)
