-- A text among bytes, or none.
use Rattle.std.specs.Prelude.{ℕ, List, Option, option_map}
use Rattle.std.specs.Borrow.{Bor}

abbrev pub value_at : Option (Bor (List ℕ)) → Option (List ℕ)
value_at value = option_map (λ v. v.now) value
