-- The bytes of a label.
use Rattle.std.proofs.Common.{◌≡◌, ◌<◌, ℕ, true, List, [], ◌∷◌, arith}
use Rattle.std.proofs.lemmas.Bool.{and_parts}
use Rattle.std.proofs.lemmas.Bool.Decides.{nat_tests}
use Rattle.std.proofs.lemmas.Str.{IsUtf8-from_ascii}
use Rattle.std.proofs.lemmas.Str.Ascii.{IsAscii-nil, IsAscii-cons}
use Rattle.std.specs.List.{list_all}
use Rattle.std.specs.Str.{IsAscii, IsUtf8}
use Rattle.std.specs.Char.{is_ascii}
use Rattle.point_list.specs.Label.{is_label}

ascii_byte : (b : ℕ) → is_ascii b ≡ true → b < 128
ascii_byte b h = grind (arith, nat_tests)

-- a text of ASCII characters, by std's word
pub all_ascii : (text : List ℕ) → list_all is_ascii text ≡ true → IsAscii text
all_ascii [] h = IsAscii-nil
all_ascii (b ∷ bs) h =
    let (here, more) = and_parts (is_ascii b) (list_all is_ascii bs) h in
    IsAscii-cons b bs (ascii_byte b here) (all_ascii bs more)

-- a label is text
pub label_is_text : (text : List ℕ) → is_label text ≡ true → IsUtf8 text
label_is_text text h =
    let outer = and_parts _ _ h in
    let inner = and_parts _ _ outer.1 in
    IsUtf8-from_ascii text (all_ascii text inner.1)
