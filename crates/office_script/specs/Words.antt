-- The words of a line, and what a word spells.
use Rattle.std.specs.Prelude.{ℕ, ℤ, ◌+◌, ◌*◌, List, [], ◌∷◌, Bool, ◌&&◌, Option, Some, None, if◌then◌else◌, nat_lt, length, map, ◌==◌, get_or}
use Rattle.std.specs.Char.{is_ascii}
use Rattle.std.specs.List.{list_all, slice_split}
use Rattle.std.specs.Borrow.{Bor}
use Rattle.hex.specs.Hex.{hex_digit_value}
use Rattle.sunspec.specs.Digits.{signed_of}
use Rattle.poll_book.specs.Callers.{is_key}

-- the words between single spaces; two spaces together have an empty word between them
abbrev pub words_of : List ℕ → List (List ℕ)
words_of line = slice_split (λ b. b == 32) line

-- the texts that slices show
abbrev pub texts : List (Bor (List ℕ)) → List (List ℕ)
texts words = map (λ word. word.now) words

-- the word at a place
abbrev pub word_at : List (List ℕ) → ℕ → List ℕ
word_at words i = get_or words i []

-- one byte or more, all of them ASCII
abbrev pub is_text : List ℕ → Bool
is_text word = nat_lt 0 (length word) && list_all is_ascii word

-- the key that a word is
abbrev pub key_of : List ℕ → Option (List ℕ)
key_of word = if is_key word then Some word else None

-- ---- numbers with sign

-- digits, with or without a minus before them, that spell a number of 128 bits with sign
abbrev pub value_of : List ℕ → Option ℤ
value_of word = signed_of word

-- ---- bytes

abbrev pub joined : Option ℕ → Option ℕ → Option ℕ
joined (Some high) (Some low) = Some (high * 16 + low)
joined (Some high) None = None
joined None _ = None

-- what two hexadecimal digits mean, in either case
abbrev pub byte_of : List ℕ → Option ℕ
byte_of (high ∷ low ∷ []) = joined (hex_digit_value high) (hex_digit_value low)
byte_of _ = None

abbrev pub onto_bytes : Option ℕ → Option (List ℕ) → Option (List ℕ)
onto_bytes (Some b) (Some bs) = Some (b ∷ bs)
onto_bytes (Some b) None = None
onto_bytes None _ = None

-- words that are bytes, each of them
abbrev pub bytes_of : List (List ℕ) → Option (List ℕ)
bytes_of [] = Some []
bytes_of (word ∷ more) = onto_bytes (byte_of word) (bytes_of more)
