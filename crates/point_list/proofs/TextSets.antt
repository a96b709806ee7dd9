-- Looking a text up among others, and adding one, in a sorted set.
use Rattle.std.proofs.Common.{◌≡◌, ◌||◌, ℕ, Bool, true, false, List, [], ◌∷◌, refl, sym, ap, ◌∙◌}
use Rattle.std.specs.Borrow.{Bor}
use Rattle.std.specs.BTreeMap.{is_at}
use Rattle.std.specs.BTreeSet.{insert_key}
use Rattle.std.specs.Cmp.Lexicographic.{slice_cmp}
use Rattle.std.specs.List.{list_any}
use Rattle.std.specs.Ordering.{nat_cmp, is_eq, match_ordering}
use Rattle.std.specs.Str.{bytes_eq}
use Rattle.std.specs.declared.cmp.Ordering.{Ordering}
use Rattle.std.specs.declared.cmp.Ordering.TheVariants.{Less, Equal, Greater}
use Rattle.std.proofs.lemmas.Map.Text.{is_eq-slice_cmp}
use Rattle.std.proofs.lemmas.Slice.Eq.{bytes_eq-Decides}

-- a look-up by order finds the text that is equal
pub any_at : (text : List ℕ) (keys : List (Bor (List ℕ))) → list_any (is_at (λ (key : Bor (List ℕ)). slice_cmp nat_cmp text key.now)) keys ≡ list_any (λ (key : Bor (List ℕ)). bytes_eq text key.now) keys
any_at text [] = refl
any_at text (key ∷ keys) = rw (is_eq-slice_cmp text key.now, any_at text keys) refl

swapped : (a b c : Bool) → (a || (b || c)) ≡ (b || (a || c))
swapped true true c = refl
swapped true false c = refl
swapped false true c = refl
swapped false false c = refl

twice : (a c : Bool) → (a || c) ≡ (a || (a || c))
twice true c = refl
twice false c = refl

abbrev any : List ℕ → List (Bor (List ℕ)) → Bool
any other keys = list_any (λ (key : Bor (List ℕ)). bytes_eq other key.now) keys

added_at : (o : Ordering) (text : Bor (List ℕ)) (key : Bor (List ℕ)) (keys more : List (Bor (List ℕ))) (other : List ℕ) → slice_cmp nat_cmp text.now key.now ≡ o
    → any other more ≡ (bytes_eq other text.now || any other keys)
    → any other (match_ordering o (text ∷ key ∷ keys) (key ∷ keys) (key ∷ more)) ≡ (bytes_eq other text.now || any other (key ∷ keys))
added_at Less text key keys more other is h = refl
added_at Equal text key keys more other is h =
    let same : text.now ≡ key.now = (bytes_eq-Decides text.now key.now).0 (sym (is_eq-slice_cmp text.now key.now) ∙ ap is_eq is) in
    rw same (twice (bytes_eq other key.now) (any other keys))
added_at Greater text key keys more other is h = rw h (swapped (bytes_eq other key.now) (bytes_eq other text.now) (any other keys))

-- a text that is added is there, and the others stay
pub any_added : (text : Bor (List ℕ)) (keys : List (Bor (List ℕ))) (other : List ℕ)
    → any other (insert_key (λ (a b : Bor (List ℕ)). slice_cmp nat_cmp a.now b.now) keys text) ≡ (bytes_eq other text.now || any other keys)
any_added text [] other = refl
any_added text (key ∷ keys) other = added_at (slice_cmp nat_cmp text.now key.now) text key keys (insert_key (λ (a b : Bor (List ℕ)). slice_cmp nat_cmp a.now b.now) keys text) other refl (any_added text keys other)
