-- What a reading shows.
use Rattle.std.specs.Prelude.{ℕ, List, Option, option_map, String, string_bytes}
use Rattle.std.specs.declared.alloc.Global.{Global}
use Rattle.office_http.specs.declared.reading_body.Shown.{Shown}

abbrev pub text_in : Option (String Global) → Option (List ℕ)
text_in text = option_map (λ t. string_bytes t) text

abbrev pub shown : Shown → ℕ × Option (List ℕ)
shown reading = (reading.slot, text_in reading.text)
