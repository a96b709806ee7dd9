-- A row of a table by numbers that is written over.
use Rattle.std.proofs.Common.{◌≡◌, ℕ, pos, ◌<◌, List, [], ◌∷◌, map, flat_map, Bool, None, Some, Option, refl, sym, ap, ap₂, subst, ◌∙◌, arith, T, if◌then◌else◌}
use Rattle.std.specs.List.{AllByRecursion}
use Rattle.std.specs.FinMap.Entries as rows
use Rattle.std.specs.declared.cmp.Ordering.{Ordering}
use Rattle.std.specs.declared.cmp.Ordering.TheVariants.{Less, Equal, Greater}
use Rattle.std.specs.Ordering.{nat_cmp, is_eq, is_lt}
use Rattle.std.proofs.lemmas.Bool.Decides.{nat_tests}
use Rattle.sqlite_value.specs.declared.value.Value.TheVariants.{Int}
use Rattle.sqlite_value.specs.Order.{Row, column, value_cmp}
use Rattle.sqlite_value.proofs.OrderLemmas.{value_cmp-Int}
use Rattle.sqlite_sql.specs.Term.{Env}
use Rattle.sqlite_trees.specs.Tree.{put_row, without_rowid}
use Rattle.office_store.proofs.Comparing.{ints}
use Rattle.office_store.proofs.Sorted.{true_T}
use Rattle.office_store.proofs.Appending.{less_is, less, greater, first_T, second_T}

pub greater_is : (a b : ℕ) → nat_cmp a b ≡ Greater → b < a
greater_is a b h = grind (arith, nat_tests)

equal_is : (a b : ℕ) → nat_cmp a b ≡ Equal → a ≡ b
equal_is a b h = grind (arith, nat_tests)

same_cmp : (a : ℕ) → nat_cmp a a ≡ Equal
same_cmp a = grind (arith, nat_tests)

module _ {X : Type 0} (stored : Row → Option (ℕ × X)) (key : (r : Row) (e : ℕ × X) → stored r ≡ Some e → column r 0 ≡ Int (pos e.0)) (passes : Row → Bool) (env : Row → Env) (n : ℕ)
    (agree : (r : Row) (e : ℕ × X) → stored r ≡ Some e → passes r ≡ is_eq (nat_cmp e.0 n)) (after : X) where
  abbrev pub hits : List Row → List Env
  hits = flat_map (λ r. if passes r then env r ∷ [] else [])

  abbrev IsAfter : Row → Type 0
  IsAfter changed = (column changed 0 ≡ Int (pos n)) × (stored changed ≡ Some (n, after))

  row_cmp : (r : Row) (e : ℕ × X) → stored r ≡ Some e → value_cmp (column r 0) (Int (pos n)) ≡ nat_cmp e.0 n
  row_cmp r e h = ap (λ v. value_cmp v (Int (pos n))) (key r e h) ∙ value_cmp-Int (pos e.0) (pos n) ∙ ints e.0 n

  above : (k : ℕ) (es : List (ℕ × X)) → T (rows.below_all nat_cmp k es) → AllByRecursion (λ e. k < e.0) es
  above k [] h = tt
  above k (e ∷ es) h = (less_is k e.0 (true_T _ (first_T _ _ h)), above k es (second_T _ _ h))

  record Later (all : List Row) (es : List (ℕ × X)) : Type 0 where
    pub none : hits all ≡ []
    pub left : without_rowid (pos n) all ≡ all
    pub put : (changed : Row) → IsAfter changed → map stored (put_row changed all) ≡ Some (n, after) ∷ map Some es

  later : (all : List Row) (es : List (ℕ × X)) → map stored all ≡ map Some es → AllByRecursion (λ e. n < e.0) es → Later all es
  later [] [] h low = record { none = refl; left = refl; put = λ changed is. ap (λ (o : Option (ℕ × X)). o ∷ []) is.1 }
  later [] (e ∷ es) h low = absurd (cc)
  later (r ∷ all) [] h low = absurd (cc)
  later (r ∷ all) (e ∷ es) h low =
      let head : stored r ≡ Some e = cc in
      let tail : map stored all ≡ map Some es = cc in
      let rest = later all es tail low.1 in
      let above_n = greater e.0 n low.0 in
      let cmp = row_cmp r e head ∙ above_n in
      let fails = agree r e head ∙ ap is_eq above_n in
      record {
        none = rw fails rest.none;
        left = rw cmp (ap (λ xs. r ∷ xs) rest.left);
        put = λ changed is.
            let here = ap (value_cmp (column r 0)) is.0 ∙ cmp in
            rw here (ap₂ (λ (o : Option (ℕ × X)) (os : List (Option (ℕ × X))). o ∷ os) is.1 (ap₂ (λ (o : Option (ℕ × X)) (os : List (Option (ℕ × X))). o ∷ os) head tail));
      }

  pub record Over (all : List Row) (es : List (ℕ × X)) (before : X) : Type 0 where
    pub row : Row
    pub is : stored row ≡ Some (n, before)
    pub hit : hits all ≡ env row ∷ []
    pub put : (changed : Row) → IsAfter changed → map stored (put_row changed (without_rowid (pos n) all)) ≡ map Some (rows.put nat_cmp n after es)

  pub over : (all : List Row) (es : List (ℕ × X)) (before : X) → map stored all ≡ map Some es → T (rows.is_sorted nat_cmp es) → rows.find nat_cmp n es ≡ Some before → Over all es before
  over [] [] before h sorted found = absurd (cc)
  over [] (e ∷ es) before h sorted found = absurd (cc)
  over (r ∷ all) [] before h sorted found = absurd (cc)
  over (r ∷ all) (e ∷ es) before h sorted found =
      let head : stored r ≡ Some e = cc in
      let tail : map stored all ≡ map Some es = cc in
      go head tail (nat_cmp e.0 n) refl (over all es before tail (second_T _ _ sorted)) found
    where
      go : stored r ≡ Some e → map stored all ≡ map Some es → (o : Ordering) → nat_cmp e.0 n ≡ o → (rows.find nat_cmp n es ≡ Some before → Over all es before)
          → rows.find nat_cmp n (e ∷ es) ≡ Some before → Over (r ∷ all) (e ∷ es) before
      go head tail Less o rest found =
          let low = less_is e.0 n (ap is_lt o) in
          let turned = greater n e.0 low in
          let it = rest (rw turned at found) in
          let cmp = row_cmp r e head ∙ o in
          let fails = agree r e head ∙ ap is_eq o in
          record {
            row = it.row;
            is = it.is;
            hit = rw fails it.hit;
            put = λ changed is.
                let here = ap (value_cmp (column r 0)) is.0 ∙ cmp in
                rw (cmp, here, turned) (ap₂ (λ (x : Option (ℕ × X)) (xs : List (Option (ℕ × X))). x ∷ xs) head (it.put changed is));
          }
      go head tail Equal o rest found =
          let same = equal_is e.0 n o in
          let turned : nat_cmp n e.0 ≡ Equal = ap (nat_cmp n) same ∙ same_cmp n in
          let value : Some e.1 ≡ Some before = rw turned at found in
          let all_above = later all es tail (subst (λ k. AllByRecursion (λ x. k < x.0) es) same (above e.0 es (first_T _ _ sorted))) in
          let cmp = row_cmp r e head ∙ o in
          let passed = agree r e head ∙ ap is_eq o in
          let one : e.1 ≡ before = cc in
          record {
            row = r;
            is = head ∙ ap₂ (λ (k : ℕ) (x : X). Some (k, x)) same one;
            hit = rw passed (ap (λ envs. env r ∷ envs) all_above.none);
            put = λ changed is.
                rw (cmp, turned) (ap (λ xs. map stored (put_row changed xs)) all_above.left ∙ all_above.put changed is ∙ ap (λ k. Some (k, after) ∷ map Some es) (sym same));
          }
      go head tail Greater o rest found = absurd (
          let low = greater_is e.0 n o in
          let turned = less n e.0 low in
          let gone = rw turned at found in
          let never : (xs : List (ℕ × X)) → AllByRecursion (λ x. e.0 < x.0) xs → rows.find nat_cmp n xs ≡ None = never_found low in
          let bad = sym (never es (above e.0 es (first_T _ _ sorted))) ∙ gone in
          cc
          )
        where
          never_found : n < e.0 → (xs : List (ℕ × X)) → AllByRecursion (λ x. e.0 < x.0) xs → rows.find nat_cmp n xs ≡ None
          never_found low [] h = refl
          never_found low (x ∷ xs) h = let apart = less n x.0 (omega (arith, low, h.0)) in rw apart (never_found low xs h.1)
