-- Names of callers, and the keys of their requests.
use Rattle.std.specs.Prelude.{ℕ, List, Bool, ◌&&◌, ◌||◌, ◌==◌, nat_le, nat_lt, length}
use Rattle.std.specs.List.{list_all}
use Rattle.std.specs.Char.{is_ascii_alphanumeric}

-- a letter, a digit, or one of _ -
abbrev pub is_key_byte : ℕ → Bool
is_key_byte b = is_ascii_alphanumeric b || (b == 95 || b == 45)

-- 1 to so many of these bytes
abbrev pub is_word_within : ℕ → List ℕ → Bool
is_word_within most text = nat_lt 0 (length text) && (nat_le (length text) most && list_all is_key_byte text)

abbrev pub is_caller : List ℕ → Bool
is_caller text = is_word_within 32 text

abbrev pub is_key : List ℕ → Bool
is_key text = is_word_within 64 text
