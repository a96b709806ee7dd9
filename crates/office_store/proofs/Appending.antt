-- A row that is put after all rows of a table by numbers.
use Rattle.std.proofs.Common.{◌≡◌, ℕ, pos, ◌+◌, ◌<◌, List, [], ◌∷◌, ◌++◌, map, Bool, true, false, ◌&&◌, Some, Option, refl, sym, ap, ap₂, ◌∙◌, arith, T}
use Rattle.std.specs.List.{AllByRecursion}
use Rattle.std.specs.FinMap.Entries as rows
use Rattle.std.specs.declared.cmp.Ordering.TheVariants.{Less, Greater}
use Rattle.std.specs.Ordering.{nat_cmp, is_lt}
use Rattle.std.proofs.lemmas.Bool.Decides.{nat_tests}
use Rattle.std.proofs.lemmas.List.{map-append}
use Rattle.sqlite_value.specs.declared.value.Value.TheVariants.{Int}
use Rattle.sqlite_value.specs.Order.{Row, column, value_cmp}
use Rattle.sqlite_value.proofs.OrderLemmas.{value_cmp-Int}
use Rattle.sqlite_trees.specs.Tree.{put_row}
use Rattle.poll_book.specs.Orders.{last_order}
use Rattle.poll_book.specs.declared.rows.Setting.{Setting}
use Rattle.office_store.proofs.Comparing.{ints}
use Rattle.office_store.proofs.Sorted.{true_T}

pub less : (a b : ℕ) → a < b → nat_cmp a b ≡ Less
less a b h = grind (arith, nat_tests)

pub greater : (a b : ℕ) → b < a → nat_cmp a b ≡ Greater
greater a b h = grind (arith, nat_tests)

pub less_is : (a b : ℕ) → is_lt (nat_cmp a b) ≡ true → a < b
less_is a b h = grind (arith, nat_tests)

module _ {X : Type 0} (n : ℕ) (v : X) where
  pub put_last : (es : List (ℕ × X)) → AllByRecursion (λ e. e.0 < n) es → rows.put nat_cmp n v es ≡ es ++ (n, v) ∷ []
  put_last [] low = refl
  put_last (e ∷ es) low = let after = greater n e.0 low.0 in rw after (ap (λ xs. e ∷ xs) (put_last es low.1))

module _ {X : Type 0} (stored : Row → Option (ℕ × X)) (key : (r : Row) (e : ℕ × X) → stored r ≡ Some e → column r 0 ≡ Int (pos e.0)) (new : Row) (n : ℕ) (v : X) (at : column new 0 ≡ Int (pos n)) where
  appended : (all : List Row) (es : List (ℕ × X)) → map stored all ≡ map Some es → AllByRecursion (λ e. e.0 < n) es → put_row new all ≡ all ++ new ∷ []
  appended [] es h low = refl
  appended (r ∷ all) [] h low = absurd (cc)
  appended (r ∷ all) (e ∷ es) h low =
      let head : stored r ≡ Some e = cc in
      let tail : map stored all ≡ map Some es = cc in
      let before : value_cmp (column r 0) (column new 0) ≡ Less = ap₂ value_cmp (key r e head) at ∙ value_cmp-Int (pos e.0) (pos n) ∙ ints e.0 n ∙ less e.0 n low.0 in
      rw before (ap (λ xs. r ∷ xs) (appended all es tail low.1))

  -- the row stands for an entry after all others
  pub stands_last : stored new ≡ Some (n, v) → (all : List Row) (es : List (ℕ × X)) → map stored all ≡ map Some es → AllByRecursion (λ e. e.0 < n) es → map stored (put_row new all) ≡ map Some (rows.put nat_cmp n v es)
  stands_last is all es h low =
      ap (map stored) (appended all es h low) ∙ map-append stored all (new ∷ []) ∙ ap₂ (λ (a b : List (Option (ℕ × X))). a ++ b) h (ap (λ (o : Option (ℕ × X)). o ∷ []) is)
      ∙ sym (map-append Some es ((n, v) ∷ [])) ∙ ap (map Some) (sym (put_last n v es low))

pub first_T : (a b : Bool) → T (a && b) → T a
first_T true b h = tt
first_T false b h = absurd h

pub second_T : (a b : Bool) → T (a && b) → T b
second_T true b h = h
second_T false b h = absurd h

-- no order has a number above the last one's
pub below_next : (table : List (ℕ × Setting)) → T (rows.is_sorted nat_cmp table) → AllByRecursion (λ e. e.0 < last_order table + 1) table
below_next [] h = tt
below_next (e ∷ []) h = (omega arith, tt)
below_next (e ∷ f ∷ table) h =
    let rest = below_next (f ∷ table) (second_T _ _ h) in
    let first = less_is e.0 f.0 (true_T _ (first_T _ _ (first_T _ _ h))) in
    (omega (arith, rest.0, first), rest)
