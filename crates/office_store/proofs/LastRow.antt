-- What an answer with the last row of a point, by the slots of a table's keys, shows of where they end.
use Rattle.std.proofs.Common.{◌≡◌, ◌<◌, ◌+◌, ◌-◌, ◌⊎◌, inl, inr, ℕ, pos, List, [], ◌∷◌, map, take, Bool, true, false, cond, ◌==◌, Some, Option, Err, Ok, Result, IfOk, refl, sym, ap, ap₂, subst, ◌∙◌, filter, T, arith}
use Rattle.std.specs.Prelude.{is_some}
use Rattle.std.specs.List.{AllByRecursion}
use Rattle.std.specs.Ordering.{is_lt, nat_cmp, ordering_then}
use Rattle.std.specs.declared.cmp.Ordering.TheVariants.{Less}
use Rattle.std.specs.Cmp.{nat_cmp_total, tied_itself}
use Rattle.std.specs.FinMap.Entries as rows
use Rattle.std.proofs.lemmas.Bool.Decides.{nat_tests}
use Rattle.std.proofs.lemmas.Map.Views.{exact_unsigned_eq}
use Rattle.std.proofs.lemmas.List.Elements.{All-from_recursion, recursion_from_All}
use Rattle.std.proofs.lemmas.List.Sorted.{All-permutation, IsPermutation-sym}
use Rattle.sqlite_value.specs.declared.value.Value.TheVariants.{Int}
use Rattle.sqlite_value.specs.Order.{Row, column}
use Rattle.sqlite_sql.specs.Query.{key_cmp as sort_cmp}
use Rattle.poll_book.specs.Tables.{Key, key_cmp}
use Rattle.office_store.specs.Rows.{number_of}
use Rattle.office_store.specs.Ends.{IsEndOf, ShowEnd}
use Rattle.office_store.proofs.Backward.{backward, backward_same, down, down_total, sorted_backward}
use Rattle.office_store.proofs.Comparing.{falling, sorts_down}
use Rattle.office_store.proofs.Slots.{keys_exact, keys_total}
use Rattle.office_store.proofs.Sorted.{IsFoundIn, both_T, each_above, each_found}

-- ---- the order of the rows of a point, the last first

-- the slot stands just behind a row of the point, or is 0
abbrev pub IsJustBehind : {V : Type 0} → ℕ → ℕ → List (Key × V) → Type 0
IsJustBehind point end table = (end ≡ 0) ⊎ (is_some (rows.find key_cmp (point, end - 1) table) ≡ true)

module _ (point : ℕ) where
  -- the row is the point's
  abbrev pub own : {V : Type 0} → Key × V → Bool
  own e = e.0.0 == point

  -- keys of the point compare as their slots
  same_point : (a b : ℕ) (s t : ℕ) → a ≡ point → b ≡ point → nat_cmp s t ≡ key_cmp (a, s) (b, t)
  same_point a b s t at_a at_b = sym (ap (λ o. ordering_then o (nat_cmp s t)) (ap₂ nat_cmp at_a at_b ∙ tied_itself nat_cmp_total point))

  -- so a query that sorts them by the slot, from the last, sorts them as keys
  pub alike : (a b : Key) → (a.0 == point) ≡ true → (b.0 == point) ≡ true → is_lt (sort_cmp 0 (falling ∷ []) (Int (pos a.1) ∷ []) (Int (pos b.1) ∷ [])) ≡ is_lt (down key_cmp a b)
  alike a b ka kb = sorts_down a.1 b.1 ∙ ap is_lt (same_point b.0 a.0 b.1 a.1 (exact_unsigned_eq b.0 point kb) (exact_unsigned_eq a.0 point ka))

-- ---- what the first of them shows

module _ {V : Type 0} (shows : Row → Option (Key × V)) (slot_shown : (r : Row) (e : Key × V) → shows r ≡ Some e → number_of (column r 1) ≡ Some e.0.1) (point : ℕ) where
  abbrev IsBefore : ℕ → Key × V → Type 0
  IsBefore stop e = e.0.0 ≡ point → e.0.1 < stop

  -- the slot behind a row that shows an entry is the one behind the entry's
  behind_shown : (e : Key × V) (stop : ℕ) (r : Row) → ShowEnd (r ∷ []) stop → shows r ≡ Some e → stop ≡ e.0.1 + 1
  behind_shown e stop r (slot, at, behind) here =
      let slots : ◌≡◌ {A = Option ℕ} (Some slot) (Some e.0.1) = sym at ∙ slot_shown r e here in
      let one : slot ≡ e.0.1 = cc in
      behind ∙ ap (λ n. n + 1) one

  -- what is below the last in the order is before it, if it is of the same point
  lower : (slot : ℕ) (rest : List (Key × V)) → AllByRecursion (λ e. down key_cmp (point, slot) e.0 ≡ Less) rest → AllByRecursion (IsBefore (slot + 1)) rest
  lower slot [] all = tt
  lower slot (e ∷ rest) all = (λ is. let less : nat_cmp e.0.1 slot ≡ Less = same_point point e.0.0 point e.0.1 slot is refl ∙ all.0 in grind (arith, nat_tests), lower slot rest all.1)

  -- so each row of the point stands before the slot behind the row that is shown
  ends_shown : (shown xs : List Row) (table : List (Key × V)) (stop : ℕ) → ShowEnd shown stop → shown ≡ take 1 xs → map shows xs ≡ map Some (filter (own point) table) → T (rows.is_sorted (down key_cmp) table)
      → AllByRecursion (IsBefore stop) table
  ends_shown shown xs [] stop is cut same sorted = tt
  ends_shown shown xs (e ∷ table) stop is cut same sorted =
      let both = both_T _ _ sorted in
      by (own point e) refl xs same cut both.1 both.0 (λ rest. ends_shown shown xs table stop is cut rest both.1)
    where
      by : (b : Bool) → own point e ≡ b → (xs : List Row) → map shows xs ≡ map Some (cond b (e ∷ filter (own point) table) (filter (own point) table)) → shown ≡ take 1 xs
          → T (rows.is_sorted (down key_cmp) table) → T (rows.below_all (down key_cmp) e.0 table)
          → (map shows xs ≡ map Some (filter (own point) table) → AllByRecursion (IsBefore stop) table) → AllByRecursion (IsBefore stop) (e ∷ table)
      by true own_is [] same cut tail head later = absurd (cc)
      by true own_is (r ∷ xs) same cut tail head later =
          let here : shows r ≡ Some e = cc in
          let at : stop ≡ e.0.1 + 1 = behind_shown e stop r (subst (λ rs. ShowEnd rs stop) cut is) here in
          let key : e.0 ≡ (point, e.0.1) = ap (λ n. (n, e.0.1)) (exact_unsigned_eq e.0.0 point own_is) in
          let below = each_above (down key_cmp) (down_total key_cmp keys_total keys_exact) (point, e.0.1) table (subst (λ k. T (rows.below_all (down key_cmp) k table)) key head) in
          (λ own. omega (arith, at), subst (λ n. AllByRecursion (IsBefore n) table) (sym at) (lower e.0.1 table below))
      by false own_is xs same cut tail head later =
          (λ own. absurd (let not_own : (e.0.0 == point) ≡ false = own_is in grind (arith, nat_tests)), later same)

  abbrev Stands : List (Key × V) → Key × V → Type 0
  Stands table e = is_some (rows.find key_cmp (point, e.0.1) table) ≡ true

  -- each row of the point is found in its slot
  each_stands : (table es : List (Key × V)) → AllByRecursion (IsFoundIn key_cmp keys_total table) es → AllByRecursion (Stands table) (filter (own point) es)
  unfolding IsFoundIn
  each_stands table [] all = tt
  each_stands table (e ∷ es) all = by (own point e) refl (ap is_some all.0) (each_stands table es all.1)
    where
      by : (b : Bool) → own point e ≡ b → is_some (rows.find key_cmp e.0 table) ≡ true → AllByRecursion (Stands table) (filter (own point) es) → AllByRecursion (Stands table) (cond b (e ∷ filter (own point) es) (filter (own point) es))
      by true own_is here rest = (ap (λ n. is_some (rows.find key_cmp (n, e.0.1) table)) (sym (exact_unsigned_eq e.0.0 point own_is)) ∙ here, rest)
      by false own_is here rest = rest

  -- so the row that is shown stands just before the slot behind it
  first_stands : (table es : List (Key × V)) (shown xs : List Row) (stop : ℕ) → AllByRecursion (Stands table) es → ShowEnd shown stop → shown ≡ take 1 xs → map shows xs ≡ map Some es → IsJustBehind point stop table
  first_stands table es shown [] stop all is cut same = inl (subst (λ rs. ShowEnd rs stop) cut is)
  first_stands table [] shown (r ∷ xs) stop all is cut same = absurd (cc)
  first_stands table (e ∷ es) shown (r ∷ xs) stop all is cut same =
      let here : shows r ≡ Some e = cc in
      let at : stop ≡ e.0.1 + 1 = behind_shown e stop r (subst (λ rs. ShowEnd rs stop) cut is) here in
      let before : stop - 1 ≡ e.0.1 = omega (arith, at) in
      inr (ap (λ s. is_some (rows.find key_cmp (point, s) table)) before ∙ all.0)

  module _ (table : List (Key × V)) (sorted : T (rows.is_sorted key_cmp table)) (shown xs : List Row) (cut : shown ≡ take 1 xs) (same : map shows xs ≡ map Some (filter (own point) (backward table))) where
    -- the slot behind the row that an answer shows is the end of the point
    pub end_shown : {E : Type 0} (told : Result ℕ E) → IfOk told (ShowEnd shown) → IfOk told (λ stop. IsEndOf point stop table)
    end_shown (Ok stop) is =
        let turned = backward table in
        let all = ends_shown shown xs turned stop is cut same (sorted_backward key_cmp keys_total table sorted) in
        All-permutation (IsBefore stop) turned table (IsPermutation-sym table turned (backward_same table)) (All-from_recursion (IsBefore stop) turned all)
    end_shown (Err e) is = tt

    -- and stands just behind a row, if there is one
    pub last_shown : {E : Type 0} (told : Result ℕ E) → IfOk told (ShowEnd shown) → IfOk told (λ stop. IsJustBehind point stop table)
    last_shown (Ok stop) is =
        let turned = backward table in
        let Found = IsFoundIn key_cmp keys_total table in
        let found = All-from_recursion Found table (each_found key_cmp keys_total table sorted) in
        let all = recursion_from_All Found turned (All-permutation Found table turned (backward_same table) found) in
        first_stands table (filter (own point) turned) shown xs stop (each_stands table turned all) is cut same
    last_shown (Err e) is = tt
