-- Names of callers and keys are text.
use Rattle.std.proofs.Common.{◌≡◌, ◌<◌, ℕ, true, List, [], ◌∷◌, arith}
use Rattle.std.proofs.lemmas.Bool.{and_parts}
use Rattle.std.proofs.lemmas.Bool.Decides.{nat_tests}
use Rattle.std.proofs.lemmas.Str.{IsUtf8-from_ascii}
use Rattle.std.proofs.lemmas.Str.Ascii.{IsAscii-nil, IsAscii-cons}
use Rattle.std.specs.List.{list_all}
use Rattle.std.specs.Str.{IsAscii, IsUtf8}
use Rattle.poll_book.specs.Callers.{is_key_byte, is_word_within}

ascii_byte : (b : ℕ) → is_key_byte b ≡ true → b < 128
ascii_byte b h = grind (arith, nat_tests)

all_ascii : (text : List ℕ) → list_all is_key_byte text ≡ true → IsAscii text
all_ascii [] h = IsAscii-nil
all_ascii (b ∷ bs) h =
    let (here, more) = and_parts (is_key_byte b) (list_all is_key_byte bs) h in
    IsAscii-cons b bs (ascii_byte b here) (all_ascii bs more)

-- a word of so many bytes of a key is text
pub word_is_text : (most : ℕ) (text : List ℕ) → is_word_within most text ≡ true → IsUtf8 text
word_is_text most text h =
    let outer = and_parts _ _ h in
    let inner = and_parts _ _ outer.1 in
    IsUtf8-from_ascii text (all_ascii text inner.1)
