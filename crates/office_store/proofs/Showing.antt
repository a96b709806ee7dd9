-- What an answer in the order of its keys shows of a table.
use Rattle.std.proofs.Common.{◌≡◌, ℕ, ◌+◌, ◌<◌, List, [], ◌∷◌, ◌++◌, map, flat_map, length, Bool, true, false, cond, Some, Option, refl, sym, ap, ap₂, subst, ◌∙◌, arith, T, get_or, if◌then◌else◌, All}
use Rattle.std.specs.List.{AllByRecursion, filter}
use Rattle.std.specs.List.Sorted.{IsPermutation, IsSorted}
use Rattle.std.specs.Option.{unwrap_or}
use Rattle.std.specs.FinMap.Entries as rows
use Rattle.std.specs.declared.cmp.Ordering.{Ordering}
use Rattle.std.specs.declared.cmp.Ordering.TheVariants.{Equal}
use Rattle.std.specs.Ordering.{is_lt}
use Rattle.std.specs.Cmp.{IsTotalOrder}
use Rattle.std.proofs.lemmas.List.{length-map, get_or-map}
use Rattle.std.proofs.lemmas.List.Elements.{All-from_recursion, recursion_from_All}
use Rattle.std.proofs.lemmas.List.Sorted.{All-permutation, IsPermutation-map}
use Rattle.sqlite_value.specs.Order.{Row}
use Rattle.sqlite_sql.specs.Term.{Env}
use Rattle.sqlite_sql.specs.Query.{Query, Output, output_cmp, key_cmp}
use Rattle.office_store.proofs.Sorted.{selected}

pub same_some : {X : Type 0} (x y : X) → ◌≡◌ {A = Option X} (Some x) (Some y) → x ≡ y
same_some x y h = cc

-- lists that stand for one list are one
pub same_list : {X : Type 0} (xs ys : List X) → map {B = Option X} Some xs ≡ map Some ys → xs ≡ ys
same_list [] [] h = refl
same_list [] (y ∷ ys) h = absurd (cc)
same_list (x ∷ xs) [] h = absurd (cc)
same_list {X = X} (x ∷ xs) (y ∷ ys) h =
    let head : ◌≡◌ {A = Option X} (Some x) (Some y) = cc in
    let tail : map {B = Option X} Some xs ≡ map Some ys = cc in
    ap₂ (λ (z : X) (zs : List X). z ∷ zs) (same_some x y head) (same_list xs ys tail)

module _ {K X : Type 0} (stored shown : Row → Option (K × X)) (keep : K × X → Bool) (sort : K × X → Row) (blank : K × X) where
  pub entry : Output → K × X
  entry o = unwrap_or (shown o.1) blank

  -- the output stands for an entry that passes
  pub record IsPicked (o : Output) (e : K × X) : Type 0 where
    pub shows : shown o.1 ≡ Some e
    pub passes : keep e ≡ true
    pub sorts : o.0 ≡ sort e

  itself : (o : Output) (e : K × X) → shown o.1 ≡ Some e → entry o ≡ e
  unfolding entry
  itself o e h = rw h refl

  module _ (passes : Row → Bool) (env : Row → Env) (out : Env → Output)
      (agree : (r : Row) (e : K × X) → stored r ≡ Some e → (passes r ≡ keep e) × (shown (out (env r)).1 ≡ Some e) × ((out (env r)).0 ≡ sort e)) where
    abbrev pub hits : List Row → List Env
    hits = flat_map (λ r. if passes r then env r ∷ [] else [])

    pub picked : (all : List Row) (es : List (K × X)) → map stored all ≡ map Some es → (map entry (map out (hits all)) ≡ filter keep es) × AllByRecursion (λ o. IsPicked o (entry o)) (map out (hits all))
    picked [] [] h = (refl, tt)
    picked [] (e ∷ es) h = absurd (cc)
    picked (r ∷ all) [] h = absurd (cc)
    picked (r ∷ all) (e ∷ es) h =
        let head : stored r ≡ Some e = cc in
        let tail : map stored all ≡ map Some es = cc in
        let it = agree r e head in
        step (passes r) (keep e) it.0 refl it.1 it.2 (picked all es tail)
      where
        step : (a b : Bool) → a ≡ b → keep e ≡ b → shown (out (env r)).1 ≡ Some e → (out (env r)).0 ≡ sort e
            → (map entry (map out (hits all)) ≡ filter keep es) × AllByRecursion (λ o. IsPicked o (entry o)) (map out (hits all))
            → (map entry (map out ((if a then env r ∷ [] else []) ++ hits all)) ≡ cond b (e ∷ filter keep es) (filter keep es)) × AllByRecursion (λ o. IsPicked o (entry o)) (map out ((if a then env r ∷ [] else []) ++ hits all))
        step true true same yes_is shows sorts rest =
            let is = itself (out (env r)) e shows in
            (ap₂ (λ (x : K × X) (xs : List (K × X)). x ∷ xs) is rest.0, (subst (IsPicked (out (env r))) (sym is) (record { shows = shows; passes = yes_is; sorts = sorts }), rest.1))
        step true false same yes_is shows sorts rest = absurd (cc)
        step false true same yes_is shows sorts rest = absurd (cc)
        step false false same yes_is shows sorts rest = rest

  module _ (R : K → K → Ordering) (o : IsTotalOrder R) (exact : (x y : K) → R x y ≡ Equal → x ≡ y) (q : Query)
      (alike : (a b : K × X) → keep a ≡ true → keep b ≡ true → is_lt (key_cmp 0 (map (λ k. k.1) q.order) (sort a) (sort b)) ≡ is_lt (R a.0 b.0)) where
    falls : (ordered : List Output) → All (λ o. IsPicked o (entry o)) ordered → IsSorted (output_cmp q) ordered → (k : ℕ) (d : K × X) → k + 1 < length (map entry ordered)
        → is_lt (R (get_or (map entry ordered) (k + 1) d).0 (get_or (map entry ordered) k d).0) ≡ false
    falls [] good sorted k d low = absurd (omega arith)
    falls (first ∷ more) good sorted k d low =
        let all : List Output = first ∷ more in
        let many : length (map entry all) ≡ length all = length-map all entry in
        let here : k + 1 < length all = omega (arith, low, many) in
        let before : k < length all = omega (arith, here) in
        let x = get_or all (k + 1) first in
        let y = get_or all k first in
        let gx = good (k + 1) first here in
        let gy = good k first before in
        let least : is_lt (output_cmp q x y) ≡ false = sorted k first (omega arith) here in
        let keys : is_lt (output_cmp q x y) ≡ is_lt (R (entry x).0 (entry y).0) =
        ap₂ (λ a b. is_lt (key_cmp 0 (map (λ k. k.1) q.order) a b)) gx.sorts gy.sorts ∙ alike (entry x) (entry y) gx.passes gy.passes in
        ap₂ (λ (a b : K × X). is_lt (R a.0 b.0)) (get_or-map entry all (k + 1) first d here) (get_or-map entry all k first d before) ∙ sym keys ∙ least

    shown_each : (ordered : List Output) → AllByRecursion (λ o. IsPicked o (entry o)) ordered → map shown (map (λ (x : Output). x.1) ordered) ≡ map Some (map entry ordered)
    shown_each [] good = refl
    shown_each (x ∷ more) good = ap₂ (λ (y : Option (K × X)) (ys : List (Option (K × X))). y ∷ ys) good.0.shows (shown_each more good.1)

    -- the rows of an answer in order stand for the entries of the map that pass, in their order
    pub answers : (entries table : List (K × X)) (kept ordered : List Output) → T (rows.is_sorted R table) → IsPermutation entries table
        → (map entry kept ≡ filter keep entries) × AllByRecursion (λ o. IsPicked o (entry o)) kept → IsPermutation kept ordered → IsSorted (output_cmp q) ordered
        → map shown (map (λ (x : Output). x.1) ordered) ≡ map Some (filter keep table)
    answers entries table kept ordered sorted same picks permuted in_order =
        let Good = λ (x : Output). IsPicked x (entry x) in
        let good = All-permutation Good kept ordered permuted (All-from_recursion Good kept picks.1) in
        let moved = subst (λ xs. IsPermutation xs (map entry ordered)) picks.0 (IsPermutation-map entry kept ordered permuted) in
        shown_each ordered (recursion_from_All Good ordered good)
        ∙ ap (map Some) (selected R o keep exact entries table (map entry ordered) sorted same moved (falls ordered good in_order))
