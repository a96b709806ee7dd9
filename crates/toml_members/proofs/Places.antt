-- The first place at which a test passes.
use Rattle.std.proofs.Common.{◌≡◌, ◌∙◌, List, [], ◌∷◌, Bool, true, false, cond, ℕ, length, ltb, Some, None, arith, inl, inr, refl}
use Rattle.std.specs.List.{list_any, position, position_or_len}
use Rattle.std.proofs.lemmas.Bool.{cases_Bool}
use Rattle.std.proofs.lemmas.Bool.Decides.{nat_tests}

any-position : {X : Type 0} (p : X → Bool) (xs : List X) → list_any p xs ≡ ltb (position_or_len p xs) (length xs)
any-position p [] = refl
any-position p (x ∷ xs) = elim (cases_Bool (p x)) [
  | inl pass ↦ rw pass (grind (arith, nat_tests))
  | inr miss ↦ let more = any-position p xs in rw miss (grind (arith, nat_tests))
]

-- one passes where there is a first one that does
pub any_found : {X : Type 0} (p : X → Bool) (xs : List X) (i : ℕ) → position p xs ≡ Some i → list_any p xs ≡ true
any_found p xs i e = any-position p xs ∙ by (ltb (position_or_len p xs) (length xs)) e
  where
    by : (b : Bool) → cond b (Some (position_or_len p xs)) None ≡ Some i → b ≡ true
    by true e = refl
    by false e = absurd (cc)

-- and none where there is none
pub none_found : {X : Type 0} (p : X → Bool) (xs : List X) → position p xs ≡ None → list_any p xs ≡ false
none_found p xs e = any-position p xs ∙ by (ltb (position_or_len p xs) (length xs)) e
  where
    by : (b : Bool) → cond b (Some (position_or_len p xs)) None ≡ None → b ≡ false
    by true e = absurd (cc)
    by false e = refl
