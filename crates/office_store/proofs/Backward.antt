-- A list from its end to its beginning, and a table from its last key to its first.
use Rattle.std.proofs.Common.{◌≡◌, ℕ, List, [], ◌∷◌, ◌++◌, Option, Some, None, T, refl, sym, ap, ◌∙◌, append_assoc, append-nil}
use Rattle.std.specs.List.{AllByRecursion, cons_option, filter_map, last_or, slice_get}
use Rattle.std.specs.List.Sorted.{IsPermutation}
use Rattle.std.specs.declared.cmp.Ordering.{Ordering}
use Rattle.std.specs.declared.cmp.Ordering.TheVariants.{Less, Equal}
use Rattle.std.specs.Ordering.{is_lt}
use Rattle.std.specs.FinMap.Entries as rows
use Rattle.std.specs.Cmp.{IsTotalOrder}
use Rattle.std.proofs.lemmas.List.Elements.{All-from_recursion, recursion_from_All, filter_map-append}
use Rattle.std.proofs.lemmas.List.Sorted.{All-permutation, IsPermutation-refl, IsPermutation-sym, IsPermutation-cons, IsPermutation-trans, IsPermutation-to_front}
use Rattle.office_store.proofs.Sorted.{each_above, both_T, pair_T, T_true}

unfoldable pub backward : {X : Type 0} → List X → List X
backward [] = []
backward (x ∷ xs) = backward xs ++ x ∷ []

pub backward_same : {X : Type 0} (xs : List X) → IsPermutation xs (backward xs)
unfolding backward
backward_same [] = IsPermutation-refl []
backward_same (x ∷ xs) =
    IsPermutation-trans (x ∷ xs) (x ∷ backward xs) (backward xs ++ x ∷ []) (IsPermutation-cons x xs (backward xs) (backward_same xs)) (IsPermutation-sym (backward xs ++ x ∷ []) (x ∷ backward xs) (IsPermutation-to_front (backward xs) x))

again : {X : Type 0} (xs : List X) (e : X) → backward (xs ++ e ∷ []) ≡ e ∷ backward xs
unfolding backward
again [] e = refl
again (x ∷ xs) e = ap (λ l. l ++ x ∷ []) (again xs e)

pub twice : {X : Type 0} (xs : List X) → backward (backward xs) ≡ xs
unfolding backward
twice [] = refl
twice (x ∷ xs) = again (backward xs) x ∙ ap (λ l. x ∷ l) (twice xs)

-- what the elements give, taken from the end, begins with what they give last
first_or : {X : Type 0} (give : X → Option ℕ) (xs : List X) (more : List ℕ) → slice_get (filter_map give (backward xs) ++ more) 0 ≡ last_or (slice_get more 0) (filter_map give xs)
unfolding backward
first_or give [] more = refl
first_or {X} give (x ∷ xs) more =
    ap (λ l. slice_get (l ++ more) 0) (filter_map-append give (backward xs) (x ∷ []))
    ∙ ap (λ l. slice_get l 0) (append_assoc (filter_map give (backward xs)) (cons_option (give x) []) more)
    ∙ by (give x) (λ l. first_or give xs l)
  where
    by : (o : Option ℕ) → ((l : List ℕ) → slice_get (filter_map give (backward xs) ++ l) 0 ≡ last_or (slice_get l 0) (filter_map give xs))
        → slice_get (filter_map give (backward xs) ++ (cons_option o [] ++ more)) 0 ≡ last_or (slice_get more 0) (cons_option o (filter_map give xs))
    by None rest = rest more
    by (Some n) rest = rest (n ∷ more)

pub first_is_last : {X : Type 0} (give : X → Option ℕ) (xs : List X) → slice_get (filter_map give (backward xs)) 0 ≡ last_or None (filter_map give xs)
first_is_last give xs = ap (λ l. slice_get l 0) (sym (append-nil (filter_map give (backward xs)))) ∙ first_or give xs []

-- ---- the order from the last to the first

abbrev pub down : {K : Type 0} → (K → K → Ordering) → K → K → Ordering
down R a b = R b a

module _ {K : Type 0} (R : K → K → Ordering) (total : IsTotalOrder R) (exact : (x y : K) → R x y ≡ Equal → x ≡ y) where
  pub down_exact : (x y : K) → down R x y ≡ Equal → x ≡ y
  down_exact x y h = sym (exact y x h)

  pub down_total : IsTotalOrder (down R)
  down_total = record {
    antisymm = λ x y. total.antisymm y x;
    trans = λ x y z p q. total.trans z y x q p;
    congr = λ x y z p. ap (R z) (down_exact x y p);
  }

module _ {K X : Type 0} (R : K → K → Ordering) (total : IsTotalOrder R) where
  below_more : (k : K) (xs : List (K × X)) (e : K × X) → T (rows.below_all (down R) k xs) → down R k e.0 ≡ Less → T (rows.below_all (down R) k (xs ++ e ∷ []))
  below_more k [] e h less = pair_T _ _ (T_true _ (ap is_lt less)) tt
  below_more k (x ∷ xs) e h less = let both = both_T _ _ h in pair_T _ _ both.0 (below_more k xs e both.1 less)

  sorted_more : (xs : List (K × X)) (e : K × X) → T (rows.is_sorted (down R) xs) → AllByRecursion (λ x. down R x.0 e.0 ≡ Less) xs → T (rows.is_sorted (down R) (xs ++ e ∷ []))
  sorted_more [] e h all = tt
  sorted_more (x ∷ xs) e h all = let both = both_T _ _ h in pair_T _ _ (below_more x.0 xs e both.0 all.0) (sorted_more xs e both.1 all.1)

  pub sorted_backward : (es : List (K × X)) → T (rows.is_sorted R es) → T (rows.is_sorted (down R) (backward es))
  unfolding backward
  sorted_backward [] h = tt
  sorted_backward (e ∷ es) h =
      let both = both_T _ _ h in
      let Above = λ (x : K × X). R e.0 x.0 ≡ Less in
      let above = recursion_from_All Above (backward es) (All-permutation Above es (backward es) (backward_same es) (All-from_recursion Above es (each_above R total e.0 es both.0))) in
      sorted_more (backward es) e (sorted_backward es both.1) above
