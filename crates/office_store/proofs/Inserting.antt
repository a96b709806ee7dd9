-- A row that is put in a table by numbers where its number is free.
use Rattle.std.proofs.Common.{◌≡◌, ℕ, pos, List, [], ◌∷◌, map, None, Some, Option, refl, ap, ap₂, ◌∙◌}
use Rattle.std.specs.FinMap.Entries as rows
use Rattle.std.specs.declared.cmp.Ordering.{Ordering}
use Rattle.std.specs.declared.cmp.Ordering.TheVariants.{Less, Equal, Greater}
use Rattle.std.specs.Ordering.{nat_cmp, is_lt}
use Rattle.sqlite_value.specs.declared.value.Value.TheVariants.{Int}
use Rattle.sqlite_value.specs.Order.{Row, column, value_cmp}
use Rattle.sqlite_value.proofs.OrderLemmas.{value_cmp-Int}
use Rattle.sqlite_trees.specs.Tree.{put_row}
use Rattle.office_store.proofs.Comparing.{ints}
use Rattle.office_store.proofs.Appending.{less, less_is, greater}
use Rattle.office_store.proofs.Settling.{greater_is}

module _ {X : Type 0} (stored : Row → Option (ℕ × X)) (key : (r : Row) (e : ℕ × X) → stored r ≡ Some e → column r 0 ≡ Int (pos e.0)) (new : Row) (n : ℕ) (v : X) (at : column new 0 ≡ Int (pos n)) (is : stored new ≡ Some (n, v)) where
  row_cmp : (r : Row) (e : ℕ × X) → stored r ≡ Some e → value_cmp (column r 0) (column new 0) ≡ nat_cmp e.0 n
  row_cmp r e h = ap₂ value_cmp (key r e h) at ∙ value_cmp-Int (pos e.0) (pos n) ∙ ints e.0 n

  pub stands_in : (all : List Row) (es : List (ℕ × X)) → map stored all ≡ map Some es → rows.find nat_cmp n es ≡ None → map stored (put_row new all) ≡ map Some (rows.put nat_cmp n v es)
  stands_in [] [] h none = ap (λ (o : Option (ℕ × X)). o ∷ []) is
  stands_in [] (e ∷ es) h none = absurd (cc)
  stands_in (r ∷ all) [] h none = absurd (cc)
  stands_in (r ∷ all) (e ∷ es) h none =
      let head : stored r ≡ Some e = cc in
      let tail : map stored all ≡ map Some es = cc in
      go head tail (nat_cmp n e.0) refl none (stands_in all es tail)
    where
      go : stored r ≡ Some e → map stored all ≡ map Some es → (o : Ordering) → nat_cmp n e.0 ≡ o → rows.find nat_cmp n (e ∷ es) ≡ None
          → (rows.find nat_cmp n es ≡ None → map stored (put_row new all) ≡ map Some (rows.put nat_cmp n v es)) → map stored (put_row new (r ∷ all)) ≡ map Some (rows.put nat_cmp n v (e ∷ es))
      go head tail Less o none more =
          let after = row_cmp r e head ∙ greater e.0 n (less_is n e.0 (ap is_lt o)) in
          rw (after, o) (ap₂ (λ (x : Option (ℕ × X)) (xs : List (Option (ℕ × X))). x ∷ xs) is (ap₂ (λ (x : Option (ℕ × X)) (xs : List (Option (ℕ × X))). x ∷ xs) head tail))
      go head tail Equal o none more = absurd (let bad = rw o at none in cc)
      go head tail Greater o none more =
          let before = row_cmp r e head ∙ less e.0 n (greater_is n e.0 o) in
          rw (before, o) (ap₂ (λ (x : Option (ℕ × X)) (xs : List (Option (ℕ × X))). x ∷ xs) head (more (rw o at none)))
