-- Readings as JSON have no float.
use Rattle.std.proofs.Common.{◌≡◌, ℕ, false, ◌||◌, List, [], ◌∷◌, map, refl, ap, ◌∙◌, Option, Some, None}
use Rattle.serde_json.specs.Data.{array}
use Rattle.serde_json.specs.View.{items_of}
use Rattle.serde_json.specs.Written.{has_float, items_have_float as any_float}
use Rattle.office_http.specs.Answers.{listed_data, reading_data}

no_float_in : (reading : ℕ × Option (List ℕ)) → has_float (reading_data reading) ≡ false
no_float_in (slot, Some text) = refl
no_float_in (slot, None) = refl

no_floats : (readings : List (ℕ × Option (List ℕ))) → any_float (items_of (map reading_data readings)) ≡ false
no_floats [] = refl
no_floats (r ∷ rs) = ap (λ b. b || any_float (items_of (map reading_data rs))) (no_float_in r) ∙ no_floats rs

pub no_float : (point : List ℕ) (readings : List (ℕ × Option (List ℕ))) → has_float (listed_data point (array (items_of (map reading_data readings)))) ≡ false
no_float point readings = ap (λ b. b || false) (no_floats readings)

-- what is mapped one after the other
pub mapped : {A B C : Type 0} (f : B → C) (g : A → B) (xs : List A) → map (λ x. f (g x)) xs ≡ map f (map g xs)
mapped f g [] = refl
mapped f g (x ∷ xs) = ap (λ l. f (g x) ∷ l) (mapped f g xs)
