-- The first element that passes, by its place.
use Rattle.std.proofs.Common.{◌≡◌, ◌≤◌, ◌<◌, ◌+◌, ℕ, zero, suc, Bool, true, false, cond, not, ltb, List, [], ◌∷◌, length, get_or, Some, None, refl, sym, ap, ◌∙◌, arith}
use Rattle.std.specs.Prelude.{find, slice_get}
use Rattle.std.specs.List.{position, position_or_len}
use Rattle.std.proofs.lemmas.List.Quantifiers.{position-Some}
use Rattle.std.proofs.lemmas.List.Recursion.{found_at}
use Rattle.std.proofs.lemmas.Bool.{ltb-false}

pub found : {X : Type 0} (p : X → Bool) (xs : List X) (i : ℕ) (d : X) → position p xs ≡ Some i → Some (get_or xs i d) ≡ find p xs
found p xs i d e =
    let at = position-Some p xs i d e in
    sym (found_at (find p) p Some None refl (λ x xs. refl) xs i d at.0 at.2 at.1)

past : {X : Type 0} (p : X → Bool) (xs : List X) → length xs ≤ position_or_len p xs → find p xs ≡ None
past p [] h = refl
past p (x ∷ xs) h = by (p x) refl h (λ le. past p xs le)
  where
    by : (b : Bool) → p x ≡ b → suc (length xs) ≤ cond (not b) (1 + position_or_len p xs) 0 → (length xs ≤ position_or_len p xs → find p xs ≡ None) → cond (p x) (Some x) (find p xs) ≡ None
    by true e h rest = absurd (omega arith)
    by false e h rest = ap (λ b. cond b (Some x) (find p xs)) e ∙ rest (omega arith)

none_of : (b : Bool) (n : ℕ) → cond b (Some n) None ≡ None → b ≡ false
none_of true n e = absurd (cc)
none_of false n e = refl

pub missed : {X : Type 0} (p : X → Bool) (xs : List X) → position p xs ≡ None → None ≡ find p xs
missed p xs e = sym (past p xs (ltb-false _ _ (none_of (ltb (position_or_len p xs) (length xs)) _ e)))

pub got : {X : Type 0} (xs : List X) (i : ℕ) (d : X) → i < length xs → slice_get xs i ≡ Some (get_or xs i d)
got [] i d lt = absurd (omega arith)
got (x ∷ xs) zero d lt = refl
got (x ∷ xs) (suc i) d lt = got xs i d (omega arith)
