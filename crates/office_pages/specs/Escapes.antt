-- Texts within HTML and within the quotes of labels, character by character.
use Rattle.std.specs.Prelude.{ℕ, List, ◌==◌, if◌then◌else◌, codes, encode_utf8, flat_map}
use Rattle.std.specs.Str.{chars}

-- a character of a text in HTML, between tags or in an attribute's quotes
abbrev pub html_character : ℕ → List ℕ
html_character c =
    if c == 38 then codes "&amp;" else
    if c == 60 then codes "&lt;" else
    if c == 62 then codes "&gt;" else
    if c == 34 then codes "&quot;" else
    if c == 39 then codes "&#39;" else
    encode_utf8 c

abbrev pub html_text : List ℕ → List ℕ
html_text text = flat_map html_character (chars text)

-- a character of a label's value (OpenMetrics 1.0: a backslash, a double quote and a line feed are escaped)
abbrev pub label_character : ℕ → List ℕ
label_character c =
    if c == 92 then codes "\\\\" else
    if c == 34 then codes "\\\"" else
    if c == 10 then codes "\\n" else
    encode_utf8 c

abbrev pub label_text : List ℕ → List ℕ
label_text text = flat_map label_character (chars text)
