-- Slots that count, of which some are left out.
use Rattle.std.proofs.Common.{◌≡◌, ◌⊎◌, ◌<◌, ◌≤◌, ℕ, suc, ◌+◌, ◌*◌, List, [], ◌∷◌, length, Some, inl, inr, refl, sym, ap, ◌∙◌, subst, arith}
use Rattle.std.specs.Prelude.{All, Contains, Option, None, map, option_map}
use Rattle.std.proofs.lemmas.List.Elements.{All-map}
use Rattle.std.proofs.lemmas.Option.{none-some, same_Some}
use Rattle.poll_book.specs.Totals.{first_of, last_of, steps}
use Rattle.poll_book.specs.Histories.{IsRising}
use Rattle.office_core.specs.FirstArrivals.{numbers_of}
use Rattle.office_core.specs.Losses.{first_slot, last_slot}
use Rattle.office_core.proofs.Elements.{among, in_none, further, foremost}
use Rattle.office_core.proofs.BySlot.{slot_of, rising_rest, rising_first}
use Rattle.office_core.proofs.StepsLost.{IsPart, lost, rounds_lost}

abbrev Pair : Type 0
Pair = ℕ × ℕ

-- pairs by slot that are all among others by slot are those with some left out
part_of : (xs ys : List Pair) → IsRising slot_of xs → IsRising slot_of ys → ((p : Pair) → Contains xs p → Contains ys p) → IsPart xs ys
part_of [] ys rx ry there = tt
part_of (x ∷ xs) [] rx ry there = in_none x (there x (foremost x xs))
part_of (x ∷ xs) (y ∷ ys) rx ry there =
    place (among y ys x (there x (foremost x xs))) (part_of xs ys (rising_rest x xs rx) (rising_rest y ys ry)) (part_of (x ∷ xs) ys rx (rising_rest y ys ry))
  where
    past : (p : Pair) → slot_of y < slot_of p → (y ≡ p) ⊎ Contains ys p → Contains ys p
    past p lt (inl e) = let same : slot_of y ≡ slot_of p = ap slot_of e in absurd (omega (arith, lt, same))
    past p lt (inr h) = h

    place : (y ≡ x) ⊎ Contains ys x → (((p : Pair) → Contains xs p → Contains ys p) → IsPart xs ys)
        → (((p : Pair) → Contains (x ∷ xs) p → Contains ys p) → IsPart (x ∷ xs) ys) → ((x ≡ y) × IsPart xs ys) ⊎ IsPart (x ∷ xs) ys
    place (inl e) kept left =
        inl (
          sym e,
          kept (λ p h.
              past p (let lt = rising_first x xs p rx h in let same : slot_of y ≡ slot_of x = ap slot_of e in omega (arith, lt, same)) (among y ys p (there p (further x xs p h)))),
        )
    place (inr h) kept left = inr (left (λ p g. past p (above p (among x xs p g)) (among y ys p (there p g))))
      where
        above : (p : Pair) → (x ≡ p) ⊎ Contains xs p → slot_of y < slot_of p
        above p (inl e) = subst (λ (z : Pair). slot_of y < slot_of z) e (rising_first y ys x ry h)
        above p (inr g) = let low = rising_first y ys x ry h in let high = rising_first x xs p rx g in omega (arith, low, high)

-- a slot stands in one pair of them
one_at : (xs : List Pair) (p q : Pair) → IsRising slot_of xs → Contains xs p → Contains xs q → slot_of p ≡ slot_of q → p ≡ q
one_at [] p q rise there other same = absurd (in_none p there)
one_at (x ∷ xs) p q rise there other same = by (λ a b. one_at xs p q (rising_rest x xs rise) a b same) (among x xs p there) (among x xs q other)
  where
    by : (Contains xs p → Contains xs q → p ≡ q) → (x ≡ p) ⊎ Contains xs p → (x ≡ q) ⊎ Contains xs q → p ≡ q
    by rest (inl a) (inl b) = sym a ∙ b
    by rest (inl a) (inr b) = let lt = rising_first x xs q rise b in let e : slot_of x ≡ slot_of p = ap slot_of a in absurd (omega (arith, lt, e, same))
    by rest (inr a) (inl b) = let lt = rising_first x xs p rise a in let e : slot_of x ≡ slot_of q = ap slot_of b in absurd (omega (arith, lt, e, same))
    by rest (inr a) (inr b) = rest a b

-- ---- the first and the last

first_in : (xs : List Pair) (p : Pair) → first_of xs ≡ Some p → Contains xs p
first_in [] p e = absurd (none-some p e)
first_in (x ∷ xs) p e = subst (λ (z : Pair). Contains (x ∷ xs) z) (same_Some x p e) (foremost x xs)

last_in : (xs : List Pair) (p : Pair) → last_of xs ≡ Some p → Contains xs p
last_in [] p e = absurd (none-some p e)
last_in (x ∷ []) p e = subst (λ (z : Pair). Contains (x ∷ []) z) (same_Some x p e) (foremost x [])
last_in (x ∷ y ∷ xs) p e = further x (y ∷ xs) p (last_in (y ∷ xs) p e)

-- what stands in two lists at their ends, of which the one has the pairs of the other, is one pair where its slot is one
same_end : (xs ys : List Pair) (end : List Pair → Option Pair) → ((l : List Pair) (p : Pair) → end l ≡ Some p → Contains l p)
    → IsRising slot_of ys → ((p : Pair) → Contains xs p → Contains ys p) → option_map slot_of (end xs) ≡ option_map slot_of (end ys) → end xs ≡ end ys
same_end xs ys end inside ry there same = by (end xs) (end ys) refl refl same
  where
    by : (a b : Option Pair) → end xs ≡ a → end ys ≡ b → option_map slot_of a ≡ option_map slot_of b → a ≡ b
    by None None p q e = refl
    by None (Some b) p q e = absurd (none-some _ e)
    by (Some a) None p q e = absurd (none-some _ (sym e))
    by (Some a) (Some b) p q e = ap Some (one_at ys a b ry (there a (inside xs a p)) (inside ys b q) (same_Some _ _ e))

-- ---- the numbers of pairs

part_mapped : {X Y : Type 0} (f : X → Y) (xs ys : List X) → IsPart xs ys → IsPart (map f xs) (map f ys)
part_mapped f [] ys part = tt
part_mapped f (x ∷ xs) [] part = absurd part
part_mapped f (x ∷ xs) (y ∷ ys) (inl here) = inl (ap f here.0, part_mapped f xs ys here.1)
part_mapped f (x ∷ xs) (y ∷ ys) (inr later) = inr (part_mapped f (x ∷ xs) ys later)

last_mapped : {X Y : Type 0} (f : X → Y) (xs : List X) → last_of (map f xs) ≡ option_map f (last_of xs)
last_mapped f [] = refl
last_mapped f (x ∷ []) = refl
last_mapped f (x ∷ y ∷ xs) = last_mapped f (y ∷ xs)

first_mapped : {X Y : Type 0} (f : X → Y) (xs : List X) → first_of (map f xs) ≡ option_map f (first_of xs)
first_mapped f [] = refl
first_mapped f (x ∷ xs) = refl

as_long : (xs : List Pair) → length (numbers_of xs) ≡ length xs
as_long [] = refl
as_long (x ∷ xs) = ap suc (as_long xs)

module _ (roll : ℕ) (xs ys : List Pair) (within : All (λ p. p.1 ≤ roll) ys) (rx : IsRising slot_of xs) (ry : IsRising slot_of ys) (there : (p : Pair) → Contains xs p → Contains ys p) where
  part : IsPart (numbers_of xs) (numbers_of ys)
  part = part_mapped (λ (p : Pair). p.1) xs ys (part_of xs ys rx ry there)

  numbers_within : All (λ n. n ≤ roll) (numbers_of ys)
  numbers_within = All-map (λ n. n ≤ roll) (λ (p : Pair). p.1) ys within

  -- slots that are left out don't raise the sum of steps
  pub slots_lost : steps roll (numbers_of xs) ≤ steps roll (numbers_of ys)
  slots_lost = lost roll (numbers_of xs) (numbers_of ys) numbers_within part

  -- where the least and the greatest slot stay, they lower it by whole rounds
  pub rounds_of_slots : first_slot xs ≡ first_slot ys → last_slot xs ≡ last_slot ys
      → (k : ℕ) × (steps roll (numbers_of xs) + k * (roll + 1) ≡ steps roll (numbers_of ys)) × (k + length xs ≤ length ys)
  rounds_of_slots first last =
      let f : Pair → ℕ = λ p. p.1 in
      let low = same_end xs ys first_of first_in ry there first in
      let high = same_end xs ys last_of last_in ry there last in
      let r = rounds_lost roll (numbers_of xs) (numbers_of ys) numbers_within part
      (first_mapped f xs ∙ ap (option_map f) low ∙ sym (first_mapped f ys))
      (last_mapped f xs ∙ ap (option_map f) high ∙ sym (last_mapped f ys)) in
      (r.rounds, r.is, omega (arith, r.at_most, as_long xs, as_long ys))
