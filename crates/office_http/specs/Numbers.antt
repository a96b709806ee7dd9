-- The slots of a target.
use Rattle.std.specs.Prelude.{ℕ, ◌-◌, ◌&&◌, nat_le, List, Option, Some, None, if◌then◌else◌}
use Rattle.sunspec.specs.Digits.{number_of}
use Rattle.poll_book.specs.Tables.{most_apart}

abbrev pub slot_of : List ℕ → Option ℕ
slot_of text = number_of 10 4294967295 text

-- the slots from the one to the other, at most 10,000 of them
abbrev pub range_of : Option ℕ → Option ℕ → Option (ℕ × ℕ)
range_of (Some from) (Some to) = if nat_le from to && nat_le (to - from) most_apart then Some (from, to) else None
range_of (Some from) None = None
range_of None to = None
