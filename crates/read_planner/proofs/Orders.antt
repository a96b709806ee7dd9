-- Places in order.
use Rattle.std.proofs.Common.{◌≡◌, ◌≤◌, ◌<◌, ◌+◌, ℕ, suc, Bool, true, false, List, [], ◌∷◌, ◌++◌, length, get_or, take, drop, cond, arith, refl, sym, subst, inl, inr}
use Rattle.std.proofs.Common.{nat_cmp, is_lt, eqb, ltb}
use Rattle.std.specs.Prelude.{Contains, IsSorted}
use Rattle.std.specs.Cmp.{IsTotalOrder}
use Rattle.std.specs.Ordering.{ordering_then}
use Rattle.std.specs.declared.cmp.Ordering.{Ordering}
use Rattle.std.specs.declared.cmp.Ordering.TheVariants.{Less, Equal, Greater}
use Rattle.std.proofs.lemmas.Bool.{eqb-true, eqb-false, ltb-false}
use Rattle.std.proofs.lemmas.Cmp.{then_total, on_total, nat_cmp_total}
use Rattle.std.proofs.lemmas.List.Sorted.{sorted_far, ranks_by}
use Rattle.std.proofs.lemmas.List.{drop_more, take-append-drop}
use Rattle.std.proofs.lemmas.List.Elements.{All-contains}
use Rattle.read_planner.specs.declared.place.Place.{Place}
use Rattle.read_planner.specs.Chosen.{IsUpTo}
use Rattle.read_planner.specs.Walk.{AreInOrder}

-- what comes later is in order
pub order_append : (xs ys : List Place) → AreInOrder (xs ++ ys) → AreInOrder ys
order_append [] ys order = order
order_append (x ∷ xs) ys order = order_append xs ys order.1

-- what stands behind a place comes later
pub later_up : (places : List Place) (i : ℕ) (d other : Place) → AreInOrder places → i < length places → Contains (drop (i + 1) places) other → IsUpTo (get_or places i d) other
later_up places i d other order lt c =
    let rest : AreInOrder (drop i places) = order_append (take i places) (drop i places) (subst AreInOrder (sym (take-append-drop i places)) order) in
    All-contains (IsUpTo (get_or places i d)) (drop (i + 1) places) other (subst AreInOrder (drop_more places i d lt) rest).0 c

-- neighbours in pairs that are in order make a list in order
pub in_order : (places : List Place) → ((i j : ℕ) (d : Place) → i ≤ j → j < length places → IsUpTo (get_or places i d) (get_or places j d)) → AreInOrder places
in_order [] up = tt
in_order (place ∷ places) up = (
  λ k d lt. up 0 (suc k) d (omega arith) (omega arith),
  in_order places (λ i j d le lt. up (suc i) (suc j) d (omega arith) (omega arith)),
)

-- by function, start and end
abbrev pub place_cmp : Place → Place → Ordering
place_cmp a b = ordering_then (nat_cmp a.function b.function) (ordering_then (nat_cmp a.start b.start) (nat_cmp a.end b.end))

-- that order is total
places_total : IsTotalOrder place_cmp
places_total = then_total (on_total (λ (place : Place). place.function) nat_cmp_total)
    (then_total (on_total (λ (place : Place). place.start) nat_cmp_total) (on_total (λ (place : Place). place.end) nat_cmp_total))

-- a place that is not less than another stands behind it
not_less : (a b : Place) → is_lt (place_cmp b a) ≡ false → IsUpTo a b
not_less a b = by (ltb b.function a.function) (eqb b.function a.function) (ltb b.start a.start) refl refl refl
  where
    by : (x y z : Bool) → ltb b.function a.function ≡ x → eqb b.function a.function ≡ y → ltb b.start a.start ≡ z
        → is_lt (ordering_then (cond x Less (cond y Equal Greater)) (ordering_then (cond z Less (cond (eqb b.start a.start) Equal Greater)) (nat_cmp b.end a.end))) ≡ false → IsUpTo a b
    by true y z p q r h = absurd (cc)
    by false true true p q r h = absurd (cc)
    by false true false p q r h = inr (sym (eqb-true b.function a.function q), ltb-false b.start a.start r)
    by false false z p q r h = let le = ltb-false b.function a.function p in let ne = eqb-false b.function a.function q in inl (omega (arith, le, ne))

-- what a sort makes
pub sorted_order : (places : List Place) → IsSorted place_cmp places → AreInOrder places
sorted_order places sorted = in_order places (λ i j d le lt.
    not_less (get_or places i d) (get_or places j d)
    (sorted_far (λ a b. is_lt (place_cmp a b)) (ranks_by places_total (λ place. place)) places sorted i j d le lt))
