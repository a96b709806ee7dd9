-- Elements of lists.
use Rattle.std.proofs.Common.{◌≡◌, zero, suc, List, ◌∷◌, ◌++◌, get_or, arith, refl, ◌⊎◌, inl, inr}
use Rattle.std.specs.Prelude.{All, Any, Contains}
use Rattle.std.proofs.lemmas.List.Elements.{Contains-append_left, Contains-get_or}

-- the first element, or one of the others
pub cons_cases : {X : Type 0} (x : X) (xs : List X) (y : X) → Contains (x ∷ xs) y → (x ≡ y) ⊎ Contains xs y
cons_cases x xs y (zero, lt, is) = inl is
cons_cases x xs y (suc k, lt, is) = inr (k, omega arith, is)

-- the first element is in the list, and each of the others
pub first_in : {X : Type 0} (x : X) (xs : List X) → Contains (x ∷ xs) x
first_in x xs = (0, omega arith, refl)

pub later_in : {X : Type 0} (x : X) (xs : List X) (y : X) → Contains xs y → Contains (x ∷ xs) y
later_in x xs y (k, lt, is) = (suc k, omega arith, is)

-- what holds of whatever is in a list holds of each of its elements
pub all_in : {X : Type 0} (P : X → Type 0) (xs : List X) → ((x : X) → Contains xs x → P x) → All P xs
all_in P xs each k d lt = each (get_or xs k d) (Contains-get_or xs k d lt)

-- and of an element that one has
pub any_in : {X : Type 0} (P : X → Type 0) (xs : List X) (x : X) → Contains xs x → P x → Any P xs
any_in P xs x (k, lt, is) p = (k, x, lt, is, p)

-- an element of one list that is in another
pub any_moved : {X : Type 0} (P Q : X → Type 0) (xs ys : List X) → ((x : X) → Contains xs x → P x → Contains ys x × Q x) → Any P xs → Any Q ys
any_moved P Q xs ys move (k, x, lt, is, p) = let m = move x (k, lt, is) p in any_in Q ys x m.0 m.1

-- more elements
pub any_append : {X : Type 0} (P : X → Type 0) (xs ys : List X) → Any P xs → Any P (xs ++ ys)
any_append P xs ys any = any_moved P P xs (xs ++ ys) (λ x c p. (Contains-append_left xs ys x c, p)) any

-- what holds of the first element holds of one
pub any_first : {X : Type 0} (P : X → Type 0) (x : X) (xs : List X) → P x → Any P (x ∷ xs)
any_first P x xs p = any_in P (x ∷ xs) x (first_in x xs) p
