-- The elements of a list, one by one.
use Rattle.std.proofs.Common.{◌≡◌, ◌⊎◌, ◌<◌, ℕ, zero, suc, Bool, true, false, cond, Option, None, Some, List, [], ◌∷◌, length, get_or, inl, inr, refl, sym, subst, arith}
use Rattle.std.specs.Prelude.{Contains, IfSome, find}

-- an element is the first or among the others
pub among : {X : Type 0} (x : X) (xs : List X) (y : X) → Contains (x ∷ xs) y → (x ≡ y) ⊎ Contains xs y
among x xs y h = by h.0 h.1 h.2
  where
    by : (k : ℕ) → k < length (x ∷ xs) → get_or (x ∷ xs) k y ≡ y → (x ≡ y) ⊎ Contains xs y
    by zero lt e = inl e
    by (suc k) lt e = inr (k, omega arith, e)

pub in_none : {X : Type 0} (y : X) → Contains [] y → ⊥
in_none y h = let lt : h.0 < 0 = h.1 in omega arith

pub further : {X : Type 0} (x : X) (xs : List X) (y : X) → Contains xs y → Contains (x ∷ xs) y
further x xs y h = (suc h.0, (let lt = h.1 in omega arith), h.2)

pub foremost : {X : Type 0} (x : X) (xs : List X) → Contains (x ∷ xs) x
foremost x xs = (0, omega arith, refl)

-- what is found is among the elements
pub found_in : {X : Type 0} (test : X → Bool) (xs : List X) (y : X) → find test xs ≡ Some y → Contains xs y
found_in test [] y h = absurd (cc)
found_in {X} test (x ∷ xs) y h = by (found_in test xs y) (test x) h
  where
    by : (find test xs ≡ Some y → Contains xs y) → (b : Bool) → cond b (Some x) (find test xs) ≡ Some y → Contains (x ∷ xs) y
    by rest true e = let same : x ≡ y = cc in subst (Contains (x ∷ xs)) same (foremost x xs)
    by rest false e = further x xs y (rest e)

-- and so is one that is found, if one is
pub one_in : {X : Type 0} (test : X → Bool) (xs : List X) (found : Option X) → found ≡ find test xs → IfSome found (Contains xs)
one_in test xs None e = tt
one_in test xs (Some y) e = found_in test xs y (sym e)
