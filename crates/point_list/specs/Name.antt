-- Names of points, and of the devices and lines of a site file.
use Rattle.std.specs.Prelude.{ℕ, List, Bool, ◌&&◌, ◌||◌, ◌==◌, nat_le, nat_lt, length}
use Rattle.std.specs.List.{list_all}
use Rattle.std.specs.Char.{is_ascii_alphanumeric}

-- a letter, a digit, or one of _ - .
abbrev pub is_name_byte : ℕ → Bool
is_name_byte b = is_ascii_alphanumeric b || (b == 95 || (b == 45 || b == 46))

-- 1 to 64 such bytes
abbrev pub is_name : List ℕ → Bool
is_name text = nat_lt 0 (length text) && (nat_le (length text) 64 && list_all is_name_byte text)
