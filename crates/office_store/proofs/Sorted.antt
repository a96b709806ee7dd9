-- Entries in the strict order of their keys: no other order of them is sorted.
use Rattle.std.proofs.Common.{◌≡◌, inl, inr, ℕ, ◌+◌, ◌<◌, List, [], ◌∷◌, map, length, Bool, true, false, cond, ◌&&◌, None, Some, Option, refl, sym, ap, ap₂, ◌∙◌, arith, T, get_or}
use Rattle.std.specs.List.{AllByRecursion, IsDistinct, filter}
use Rattle.std.specs.List.Sorted.{IsPermutation, IsStrictlySortedBy}
use Rattle.std.specs.FinMap.Entries as rows
use Rattle.std.specs.declared.cmp.Ordering.{Ordering}
use Rattle.std.specs.declared.cmp.Ordering.TheVariants.{Less, Equal, Greater}
use Rattle.std.specs.Ordering.{is_eq, is_lt, eq_by_cmp, ordering_reverse}
use Rattle.std.specs.Cmp.{IsTotalOrder, tied_itself}
use Rattle.std.proofs.lemmas.Bool.{cases_Bool}
use Rattle.std.proofs.lemmas.List.{length-map, get_or-map}
use Rattle.std.proofs.lemmas.List.Elements.{All-from_recursion, recursion_from_All}
use Rattle.std.proofs.lemmas.List.Sorted.{All-permutation, IsPermutation-sym, IsPermutation-map}
use Rattle.std.proofs.lemmas.Map.Keys.{IsDistinct-from_sorted, IsDistinct-IsPermutation, apart_from_distinct, sorted_from_all_adjacent}

pub all_map : {X : Type 0} {P Q : X → Type 0} → ((x : X) → P x → Q x) → (xs : List X) → AllByRecursion P xs → AllByRecursion Q xs
all_map f [] h = tt
all_map f (x ∷ xs) h = (f x h.0, all_map f xs h.1)

pub true_T : (b : Bool) → T b → b ≡ true
true_T true h = refl
true_T false h = absurd h

pub T_true : (b : Bool) → b ≡ true → T b
T_true true h = tt
T_true false h = absurd (cc)

pub lt_is : (o : Ordering) → is_lt o ≡ true → o ≡ Less
lt_is Less h = refl
lt_is Equal h = absurd (cc)
lt_is Greater h = absurd (cc)

pub eq_is : (o : Ordering) → is_eq o ≡ true → o ≡ Equal
eq_is Less h = absurd (cc)
eq_is Equal h = refl
eq_is Greater h = absurd (cc)

pub both_T : (a b : Bool) → T (a && b) → T a × T b
both_T true b h = (tt, h)
both_T false b h = absurd h

pub pair_T : (a b : Bool) → T a → T b → T (a && b)
pair_T true b p q = q
pair_T false b p q = absurd p

module _ {K : Type 0} (R : K → K → Ordering) (o : IsTotalOrder R) where
  rises : (x y : K) → is_lt (R y x) ≡ false → eq_by_cmp R x y ≡ false → R x y ≡ Less
  rises x y least apart = go (R x y) refl
    where
      go : (r : Ordering) → R x y ≡ r → R x y ≡ Less
      go Less is = is
      go Equal is = absurd (let bad = sym apart ∙ ap is_eq is in cc)
      go Greater is = absurd (let bad = sym least ∙ ap is_lt (o.antisymm y x ∙ ap ordering_reverse is) in cc)

  pub flips : (x y : K) → eq_by_cmp R x y ≡ eq_by_cmp R y x
  flips x y = ap is_eq (o.antisymm x y) ∙ turned (R y x)
    where
      turned : (r : Ordering) → is_eq (ordering_reverse r) ≡ is_eq r
      turned Less = refl
      turned Equal = refl
      turned Greater = refl

module _ {K X : Type 0} (R : K → K → Ordering) (o : IsTotalOrder R) where
  pub each_above : (k : K) (es : List (K × X)) → T (rows.below_all R k es) → AllByRecursion (λ e. R k e.0 ≡ Less) es
  each_above k [] h = tt
  each_above k (e ∷ es) h = let both = both_T _ _ h in (lt_is _ (true_T _ both.0), each_above k es both.1)

  all_above : (k : K) (es : List (K × X)) → AllByRecursion (λ x. R k x ≡ Less) (map (λ e. e.0) es) → T (rows.below_all R k es)
  all_above k [] h = tt
  all_above k (e ∷ es) h = pair_T _ _ (T_true _ (ap is_lt h.0)) (all_above k es h.1)

  keys_above : (k : K) (es : List (K × X)) → T (rows.below_all R k es) → AllByRecursion (λ x. R k x ≡ Less) (map (λ e. e.0) es)
  keys_above k [] h = tt
  keys_above k (e ∷ es) h = let both = both_T _ _ h in (lt_is _ (true_T _ both.0), keys_above k es both.1)

  pub keys_sorted : (es : List (K × X)) → T (rows.is_sorted R es) → IsStrictlySortedBy R (map (λ e. e.0) es)
  unfolding IsStrictlySortedBy
  keys_sorted [] h = tt
  keys_sorted (e ∷ es) h = let both = both_T _ _ h in (keys_above e.0 es both.0, keys_sorted es both.1)

  pub sorted_keys : (es : List (K × X)) → IsStrictlySortedBy R (map (λ e. e.0) es) → T (rows.is_sorted R es)
  unfolding IsStrictlySortedBy
  sorted_keys [] h = tt
  sorted_keys (e ∷ es) h = pair_T _ _ (all_above e.0 es h.0) (sorted_keys es h.1)

  unfoldable pub IsFoundIn : List (K × X) → K × X → Type 0
  IsFoundIn es e = rows.find R e.0 es ≡ Some e.1

  later : (e x : K × X) (es : List (K × X)) → R e.0 x.0 ≡ Less → IsFoundIn es x → IsFoundIn (e ∷ es) x
  unfolding IsFoundIn
  later e x es less found =
      let apart : eq_by_cmp R x.0 e.0 ≡ false = ap is_eq (o.antisymm x.0 e.0 ∙ ap ordering_reverse less) in
      rw apart found

  pub each_found : (es : List (K × X)) → T (rows.is_sorted R es) → AllByRecursion (IsFoundIn es) es
  unfolding IsFoundIn
  each_found [] h = tt
  each_found (e ∷ es) h =
      let both = both_T _ _ h in
      let first : IsFoundIn (e ∷ es) e = rw (tied_itself o e.0) refl in
      (first, go es (each_above e.0 es both.0) (each_found es both.1))
    where
      go : (xs : List (K × X)) → AllByRecursion (λ x. R e.0 x.0 ≡ Less) xs → AllByRecursion (IsFoundIn es) xs → AllByRecursion (IsFoundIn (e ∷ es)) xs
      go [] a b = tt
      go (x ∷ xs) a b = (later e x es a.0 b.0, go xs a.1 b.1)

  module _ (exact : (x y : K) → R x y ≡ Equal → x ≡ y) where
    covered : (fs es : List (K × X)) → AllByRecursion (IsFoundIn fs) es → (q : K) (v : X) → rows.find R q es ≡ Some v → rows.find R q fs ≡ Some v
    unfolding IsFoundIn
    covered fs [] all q v h = absurd (cc)
    covered fs (e ∷ es) all q v h = elim (cases_Bool (eq_by_cmp R q e.0)) [
      | inl same ↦
          let value : Some e.1 ≡ Some v = rw same at h in
          ap (λ k. rows.find R k fs) (exact q e.0 (eq_is _ same)) ∙ all.0 ∙ value
      | inr apart ↦ covered fs es all.1 q v (rw apart at h)
    ]

    same_find : (fs es : List (K × X)) → AllByRecursion (IsFoundIn fs) es → AllByRecursion (IsFoundIn es) fs → (q : K) → rows.find R q fs ≡ rows.find R q es
    same_find fs es a b q = go (rows.find R q fs) (rows.find R q es) refl refl
      where
        go : (x y : Option X) → rows.find R q fs ≡ x → rows.find R q es ≡ y → rows.find R q fs ≡ rows.find R q es
        go (Some v) y p r = p ∙ sym (covered es fs b q v p)
        go None (Some v) p r = covered fs es a q v r ∙ sym r
        go None None p r = p ∙ sym r

    -- two sorted lists of the same entries are one
    pub sorted_once : (fs es : List (K × X)) → T (rows.is_sorted R fs) → T (rows.is_sorted R es) → AllByRecursion (IsFoundIn fs) es → AllByRecursion (IsFoundIn es) fs → fs ≡ es
    sorted_once fs es a b in_fs in_es = rows.same_entries R o exact fs es a b (same_find fs es in_fs in_es)

  -- a list that doesn't fall, of keys that differ, is in strict order
  pub sorted_again : (es : List (K × X)) → IsDistinct (eq_by_cmp R) (map (λ e. e.0) es)
      → ((k : ℕ) (d : K × X) → k + 1 < length es → is_lt (R (get_or es (k + 1) d).0 (get_or es k d).0) ≡ false) → T (rows.is_sorted R es)
  sorted_again [] distinct falls = tt
  sorted_again (e ∷ more) distinct falls =
      let all : List (K × X) = e ∷ more in
      let keys = map (λ (x : K × X). x.0) all in
      let many : length keys ≡ length all = length-map all (λ (x : K × X). x.0) in
      sorted_keys all (sorted_from_all_adjacent o keys e.0 (λ k low.
      let here : k + 1 < length all = omega (arith, low, many) in
      let at_k = get_or-map (λ (x : K × X). x.0) all k e e.0 (omega arith) in
      let at_next = get_or-map (λ (x : K × X). x.0) all (k + 1) e e.0 here in
      let least : is_lt (R (get_or keys (k + 1) e.0) (get_or keys k e.0)) ≡ false = ap₂ (λ x y. is_lt (R x y)) at_next at_k ∙ falls k e here in
      rises R o (get_or keys k e.0) (get_or keys (k + 1) e.0) least (apart_from_distinct (eq_by_cmp R) keys k (k + 1) e.0 distinct (omega arith) low)))

  pub distinct_again : (es fs : List (K × X)) → IsPermutation es fs → IsDistinct (eq_by_cmp R) (map (λ e. e.0) es) → IsDistinct (eq_by_cmp R) (map (λ e. e.0) fs)
  distinct_again es fs same = IsDistinct-IsPermutation (eq_by_cmp R) (flips R o) (map (λ (x : K × X). x.0) es) (map (λ (x : K × X). x.0) fs) (IsPermutation-map (λ (x : K × X). x.0) es fs same)

  module _ (keep : K × X → Bool) where
    apart_from : (k : K) (es : List (K × X)) → AllByRecursion (λ y. eq_by_cmp R k y ≡ false) (map (λ e. e.0) es) → AllByRecursion (λ y. eq_by_cmp R k y ≡ false) (map (λ e. e.0) (filter keep es))
    apart_from k [] h = tt
    apart_from k (e ∷ es) h = step (keep e) (apart_from k es h.1)
      where
        step : (b : Bool) → AllByRecursion (λ y. eq_by_cmp R k y ≡ false) (map (λ e. e.0) (filter keep es)) → AllByRecursion (λ y. eq_by_cmp R k y ≡ false) (map (λ e. e.0) (cond b (e ∷ filter keep es) (filter keep es)))
        step true rest = (h.0, rest)
        step false rest = rest

    distinct_filter : (es : List (K × X)) → IsDistinct (eq_by_cmp R) (map (λ e. e.0) es) → IsDistinct (eq_by_cmp R) (map (λ e. e.0) (filter keep es))
    unfolding IsDistinct
    distinct_filter [] h = tt
    distinct_filter (e ∷ es) h = step (keep e) (distinct_filter es h.1)
      where
        step : (b : Bool) → IsDistinct (eq_by_cmp R) (map (λ e. e.0) (filter keep es)) → IsDistinct (eq_by_cmp R) (map (λ e. e.0) (cond b (e ∷ filter keep es) (filter keep es)))
        step true rest = (apart_from e.0 es h.0, rest)
        step false rest = rest

    below_filter : (k : K) (es : List (K × X)) → T (rows.below_all R k es) → T (rows.below_all R k (filter keep es))
    below_filter k [] h = tt
    below_filter k (e ∷ es) h = let both = both_T _ _ h in step (keep e) both.0 (below_filter k es both.1)
      where
        step : (b : Bool) → T (is_lt (R k e.0)) → T (rows.below_all R k (filter keep es)) → T (rows.below_all R k (cond b (e ∷ filter keep es) (filter keep es)))
        step true here rest = pair_T _ _ here rest
        step false here rest = rest

    pub sorted_filter : (es : List (K × X)) → T (rows.is_sorted R es) → T (rows.is_sorted R (filter keep es))
    sorted_filter [] h = tt
    sorted_filter (e ∷ es) h = let both = both_T _ _ h in step (keep e) both.0 (sorted_filter es both.1)
      where
        step : (b : Bool) → T (rows.below_all R e.0 es) → T (rows.is_sorted R (filter keep es)) → T (rows.is_sorted R (cond b (e ∷ filter keep es) (filter keep es)))
        step true here rest = pair_T _ _ (below_filter e.0 es here) rest
        step false here rest = rest

    -- what holds of the entries that are kept
    of_kept : (P : K × X → Type 0) (es : List (K × X)) → AllByRecursion P (filter keep es) → AllByRecursion (λ e. keep e ≡ true → P e) es
    of_kept P [] h = tt
    of_kept P (e ∷ es) h = step (of_kept P es) (keep e) refl h
      where
        step : (AllByRecursion P (filter keep es) → AllByRecursion (λ x. keep x ≡ true → P x) es) → (b : Bool) → keep e ≡ b → AllByRecursion P (cond b (e ∷ filter keep es) (filter keep es))
            → AllByRecursion (λ x. keep x ≡ true → P x) (e ∷ es)
        step rest true is h = (λ _. h.0, rest h.1)
        step rest false is h = (λ passes. absurd (let bad = sym is ∙ passes in cc), rest h)

    kept_of : (P : K × X → Type 0) (es : List (K × X)) → AllByRecursion (λ e. keep e ≡ true → P e) es → AllByRecursion P (filter keep es)
    kept_of P [] h = tt
    kept_of P (e ∷ es) h = step (keep e) refl (kept_of P es h.1)
      where
        step : (b : Bool) → keep e ≡ b → AllByRecursion P (filter keep es) → AllByRecursion P (cond b (e ∷ filter keep es) (filter keep es))
        step true is rest = (h.0 is, rest)
        step false is rest = rest

    module _ (exact : (x y : K) → R x y ≡ Equal → x ≡ y) where
      found_kept : (es : List (K × X)) (e : K × X) → IsFoundIn es e → keep e ≡ true → IsFoundIn (filter keep es) e
      unfolding IsFoundIn
      found_kept [] e h passes = absurd (cc)
      found_kept (x ∷ es) e h passes = elim (cases_Bool (eq_by_cmp R e.0 x.0)) [
        | inl same ↦
            let value : Some x.1 ≡ Some e.1 = rw same at h in
            let second : x.1 ≡ e.1 = cc in
            let is : x ≡ e = ap₂ (λ (k : K) (v : X). (k, v)) (sym (exact e.0 x.0 (eq_is _ same))) second in
            let kept : keep x ≡ true = ap keep is ∙ passes in
            rw kept (rw same value)
        | inr apart ↦ other apart (keep x) (found_kept es e (rw apart at h) passes)
      ]
        where
          other : eq_by_cmp R e.0 x.0 ≡ false → (b : Bool) → rows.find R e.0 (filter keep es) ≡ Some e.1 → rows.find R e.0 (cond b (x ∷ filter keep es) (filter keep es)) ≡ Some e.1
          other apart true rest = rw apart rest
          other apart false rest = rest

      -- what an answer in order gives of a map: its entries that pass
      pub selected : (entries table shown : List (K × X)) → T (rows.is_sorted R table) → IsPermutation entries table → IsPermutation (filter keep entries) shown
          → ((k : ℕ) (d : K × X) → k + 1 < length shown → is_lt (R (get_or shown (k + 1) d).0 (get_or shown k d).0) ≡ false) → shown ≡ filter keep table
      selected entries table shown sorted same picked falls =
          let distinct = distinct_again table entries (IsPermutation-sym entries table same) (IsDistinct-from_sorted R (map (λ (x : K × X). x.0) table) (keys_sorted table sorted)) in
          let up = sorted_again shown (distinct_again (filter keep entries) shown picked (distinct_filter entries distinct)) falls in
          let goal : List (K × X) = filter keep table in
          let in_table = recursion_from_All (IsFoundIn table) entries (All-permutation (IsFoundIn table) table entries (IsPermutation-sym entries table same) (All-from_recursion (IsFoundIn table) table (each_found table sorted))) in
          let in_goal = kept_of (IsFoundIn goal) entries (all_map (λ e here passes. found_kept table e here passes) entries in_table) in
          let shown_in_goal = recursion_from_All (IsFoundIn goal) shown (All-permutation (IsFoundIn goal) (filter keep entries) shown picked (All-from_recursion (IsFoundIn goal) (filter keep entries) in_goal)) in
          let in_shown = recursion_from_All (IsFoundIn shown) (filter keep entries) (All-permutation (IsFoundIn shown) shown (filter keep entries) (IsPermutation-sym (filter keep entries) shown picked) (All-from_recursion (IsFoundIn shown) shown (each_found shown up))) in
          let Passing = λ (e : K × X). keep e ≡ true → IsFoundIn shown e in
          let table_in_shown = recursion_from_All Passing table (All-permutation Passing entries table same (All-from_recursion Passing entries (of_kept (IsFoundIn shown) entries in_shown))) in
          sorted_once exact shown goal up (sorted_filter table sorted) (kept_of (IsFoundIn shown) table table_in_shown) shown_in_goal

module _ {K X : Type 0} (R : K → K → Ordering) (q : K) (keep : K × X → Bool) (same : (e : K × X) → keep e ≡ eq_by_cmp R q e.0) where
  -- a look-up is the first entry that passes
  pub finds_none : (es : List (K × X)) → filter keep es ≡ [] → rows.find R q es ≡ None
  finds_none [] h = refl
  finds_none (e ∷ es) h = step (keep e) (same e) h (finds_none es)
    where
      step : (b : Bool) → b ≡ eq_by_cmp R q e.0 → cond b (e ∷ filter keep es) (filter keep es) ≡ [] → (filter keep es ≡ [] → rows.find R q es ≡ None) → rows.find R q (e ∷ es) ≡ None
      step true is h rest = absurd (cc)
      step false is h rest = rw (sym is) (rest h)

  pub finds_first : (es rest : List (K × X)) (found : K × X) → filter keep es ≡ found ∷ rest → rows.find R q es ≡ Some found.1
  finds_first [] rest found h = absurd (cc)
  finds_first (e ∷ es) rest found h = step (keep e) (same e) h (finds_first es rest found)
    where
      step : (b : Bool) → b ≡ eq_by_cmp R q e.0 → cond b (e ∷ filter keep es) (filter keep es) ≡ found ∷ rest → (filter keep es ≡ found ∷ rest → rows.find R q es ≡ Some found.1) → rows.find R q (e ∷ es) ≡ Some found.1
      step true is h later = let first : e ≡ found = cc in rw (sym is) (ap (λ (x : K × X). Some x.1) first)
      step false is h later = rw (sym is) (later h)
