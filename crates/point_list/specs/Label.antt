-- Short texts.
use Rattle.std.specs.Prelude.{ℕ, List, Bool, ◌&&◌, nat_le, nat_lt, length}
use Rattle.std.specs.Char.{is_ascii}
use Rattle.std.specs.List.{list_all}

-- 1 to 64 ASCII characters
abbrev pub is_label : List ℕ → Bool
is_label text = nat_lt 0 (length text) && (nat_le (length text) 64 && list_all is_ascii text)
