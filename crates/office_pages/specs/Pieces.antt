-- Texts that grow at their end.
use Rattle.std.specs.Prelude.{◌≡◌, ℕ, List, ◌++◌}

-- what is there stays, and a text follows it
abbrev pub Grows : List ℕ → List ℕ → Type 0
Grows old new = (text : List ℕ) × (new ≡ old ++ text)
