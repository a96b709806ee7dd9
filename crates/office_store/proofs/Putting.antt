-- A row that is put into a table, and its entry in the map.
use Rattle.std.proofs.Common.{◌≡◌, List, [], ◌∷◌, map, false, cond, ◌||◌, None, Some, Option, ap, ap₂}
use Rattle.std.specs.List.Sorted.{IsPermutation}
use Rattle.std.specs.FinMap.Entries as rows
use Rattle.std.specs.declared.cmp.Ordering.{Ordering}
use Rattle.std.specs.declared.cmp.Ordering.TheVariants.{Less, Equal, Greater}
use Rattle.std.specs.Ordering.{is_eq, match_ordering}
use Rattle.std.proofs.lemmas.List.Sorted.{IsPermutation-refl, IsPermutation-sym, IsPermutation-cons, IsPermutation-trans, IsPermutation-middle}
use Rattle.sqlite_value.specs.Order.{Row, value_cmp}
use Rattle.sqlite_trees.specs.Tree.{rowid, put_row}
use Rattle.sqlite_rules.specs.Edit.{is_taken}

-- the first two change places
swapped : {X : Type 0} (x y : X) (zs : List X) → IsPermutation (x ∷ y ∷ zs) (y ∷ x ∷ zs)
swapped x y zs = IsPermutation-middle (x ∷ []) y zs

module _ {E : Type 0} (stored : Row → Option E) (new : Row) (e : E) (is : stored new ≡ Some e) where
  pub record Added (all : List Row) (es : List E) : Type 0 where
    pub entries : List E
    pub stand : map stored all ≡ map Some entries
    pub same : IsPermutation (e ∷ es) entries

  pub put_entry : (all : List Row) (es : List E) → map stored all ≡ map Some es → is_taken all new ≡ false → Added (put_row new all) es
  put_entry [] [] h free = record { entries = e ∷ []; stand = ap (λ (o : Option E). o ∷ []) is; same = IsPermutation-refl (e ∷ []) }
  put_entry [] (x ∷ es) h free = absurd (cc)
  put_entry (r ∷ all) [] h free = absurd (cc)
  put_entry (r ∷ all) (x ∷ es) h free =
      let head : stored r ≡ Some x = cc in
      let tail : map stored all ≡ map Some es = cc in
      step head (put_entry all es tail) (value_cmp (rowid r) (rowid new)) free tail
    where
      step : stored r ≡ Some x → (is_taken all new ≡ false → Added (put_row new all) es) → (o : Ordering) → (is_eq o || is_taken all new) ≡ false → map stored all ≡ map Some es → Added (match_ordering o (r ∷ put_row new all) (new ∷ all) (new ∷ r ∷ all)) (x ∷ es)
      step head rest Less free tail =
          let more = rest free in record {
            entries = x ∷ more.entries;
            stand = ap₂ (λ (o : Option E) (os : List (Option E)). o ∷ os) head more.stand;
            same = IsPermutation-trans (e ∷ x ∷ es) (x ∷ e ∷ es) (x ∷ more.entries) (swapped e x es) (IsPermutation-cons x (e ∷ es) more.entries more.same);
          }
      step head rest Equal free tail = absurd (cc)
      step head rest Greater free tail = record {
        entries = e ∷ x ∷ es;
        stand = ap₂ (λ (o : Option E) (os : List (Option E)). o ∷ os) is (ap₂ (λ (o : Option E) (os : List (Option E)). o ∷ os) head tail);
        same = IsPermutation-refl (e ∷ x ∷ es);
      }

module _ {K X : Type 0} (R : K → K → Ordering) (k : K) (v : X) where
  pub put_new : (es : List (K × X)) → rows.find R k es ≡ None → IsPermutation ((k, v) ∷ es) (rows.put R k v es)
  put_new [] none = IsPermutation-refl ((k, v) ∷ [])
  put_new (e ∷ es) none = step (R k e.0) none (put_new es)
    where
      step : (o : Ordering) → cond (is_eq o) (Some e.1) (rows.find R k es) ≡ None → (rows.find R k es ≡ None → IsPermutation ((k, v) ∷ es) (rows.put R k v es))
          → IsPermutation ((k, v) ∷ e ∷ es) (rows.by_order o ((k, v) ∷ e ∷ es) ((e.0, v) ∷ es) (e ∷ rows.put R k v es))
      step Less none rest = IsPermutation-refl ((k, v) ∷ e ∷ es)
      step Equal none rest = absurd (cc)
      step Greater none rest = IsPermutation-trans ((k, v) ∷ e ∷ es) (e ∷ (k, v) ∷ es) (e ∷ rows.put R k v es) (swapped (k, v) e es) (IsPermutation-cons e ((k, v) ∷ es) (rows.put R k v es) (rest none))

  -- entries of a map with the one more
  pub put_same : (entries more table : List (K × X)) → IsPermutation entries table → rows.find R k table ≡ None → IsPermutation ((k, v) ∷ entries) more → IsPermutation more (rows.put R k v table)
  put_same entries more table same none added =
      IsPermutation-trans more ((k, v) ∷ entries) (rows.put R k v table) (IsPermutation-sym ((k, v) ∷ entries) more added)
      (IsPermutation-trans ((k, v) ∷ entries) ((k, v) ∷ table) (rows.put R k v table) (IsPermutation-cons (k, v) entries table same) (put_new table none))
