-- A model of a site file is three numbers.
use Rattle.std.proofs.Common.{◌≡◌, ◌≢◌, List, [], ◌∷◌, length, None, refl}
use Rattle.toml.specs.View.{items_view}
use Rattle.toml.specs.declared.value.Value.{Value}
use Rattle.point_list.specs.SiteFile.{model_of}

-- other numbers of entries are none
pub other_number : (vs : List Value) → length vs ≢ 3 → None ≡ model_of (items_view vs)
other_number [] other = refl
other_number (a ∷ []) other = refl
other_number (a ∷ b ∷ []) other = refl
other_number (a ∷ b ∷ c ∷ []) other = absurd (other refl)
other_number (a ∷ b ∷ c ∷ d ∷ vs) other = refl
