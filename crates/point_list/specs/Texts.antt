-- Sets of texts.
use Rattle.std.specs.Prelude.{ℕ, List, Bool}
use Rattle.std.specs.List.{list_any}
use Rattle.std.specs.Str.{bytes_eq}
use Rattle.std.specs.Borrow.{Bor}
use Rattle.point_list.specs.declared.texts.Texts.{Texts}

-- whether a text is in the set
abbrev pub has_text : Texts → List ℕ → Bool
has_text texts text = list_any (λ (key : Bor (List ℕ)). bytes_eq text key.now) texts.set.keys
