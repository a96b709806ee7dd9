-- Reading every entry of a list, from any place on.
use Rattle.std.proofs.Common.{◌≡◌, ◌<◌, ◌≤◌, ◌+◌, ℕ, List, [], ◌∷◌, ◌++◌, length, get_or, drop, Option, Some, None, refl, ap, sym, append_assoc}
use Rattle.std.proofs.lemmas.List.{append-nil, drop_all}
use Rattle.toml.specs.Data.{Data}
use Rattle.toml.specs.View.{view, items_view}
use Rattle.toml.specs.declared.value.Value.{Value}
use Rattle.toml.proofs.Views.{items_view-drop}
use Rattle.toml_members.specs.Members.{◌>>=◌, each}

-- what is read of a rest, behind what was read before
abbrev pub with_front : {A : Type 0} → List A → Option (List A) → Option (List A)
with_front front None = None
with_front front (Some rest) = Some (front ++ rest)

joined : {A : Type 0} (front : List A) (x : A) (rest : Option (List A)) → with_front front (rest >>= λ xs. Some (x ∷ xs)) ≡ with_front (front ++ x ∷ []) rest
joined front x None = refl
joined front x (Some xs) = ap Some (sym (append_assoc front (x ∷ []) xs))

pub each_more : {A : Type 0} (f : Data → Option A) (front : List A) (vs : List Value) (i : ℕ) (v : Value) (x : A) → i < length vs → v ≡ get_or vs i v → f (view v) ≡ Some x
    → with_front front (each f (items_view (drop i vs))) ≡ with_front (front ++ x ∷ []) (each f (items_view (drop (i + 1) vs)))
unfolding each
each_more f front vs i v x lt e h = rw (items_view-drop vs i v lt, ← e, h) (joined front x (each f (items_view (drop (i + 1) vs))))

pub each_fails : {A : Type 0} (f : Data → Option A) (front : List A) (vs : List Value) (i : ℕ) (v : Value) → i < length vs → v ≡ get_or vs i v → f (view v) ≡ None
    → with_front front (each f (items_view (drop i vs))) ≡ None
unfolding each
each_fails f front vs i v lt e h = rw (items_view-drop vs i v lt, ← e, h) refl

pub each_ends : {A : Type 0} (f : Data → Option A) (front : List A) (vs : List Value) (i : ℕ) → length vs ≤ i → with_front front (each f (items_view (drop i vs))) ≡ Some front
unfolding each
each_ends f front vs i le = rw (drop_all i vs le, append-nil front) refl
