-- A test for UTF-8 that fails.
use Rattle.std.proofs.Common.{◌≡◌, ℕ, List, Bool, true, false, refl, IsUtf8}
use Rattle.std.specs.Str.{is_utf8}
use Rattle.std.proofs.lemmas.Str.{IsUtf8-from_is_utf8}

by : (bs : List ℕ) (b : Bool) → is_utf8 bs ≡ b → (IsUtf8 bs → ⊥) → is_utf8 bs ≡ false
by bs true e none = absurd (none (IsUtf8-from_is_utf8 bs e))
by bs false e none = e

pub not_utf8 : (bs : List ℕ) → (IsUtf8 bs → ⊥) → is_utf8 bs ≡ false
not_utf8 bs none = by bs (is_utf8 bs) refl none
