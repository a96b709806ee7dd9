-- No list of allowed reads that holds all points is shorter than the chosen one.
use Rattle.std.proofs.Common.{◌≡◌, ◌∙◌, ◌≤◌, ◌<◌, ℕ, suc, List, [], ◌∷◌, ◌++◌, length, arith, refl, sym, ap, inl, inr}
use Rattle.std.specs.Prelude.{All, Contains}
use Rattle.std.specs.List.{AllByRecursion}
use Rattle.std.proofs.lemmas.List.Elements.{All-contains, All-weaker}
use Rattle.std.proofs.lemmas.List.Quantifiers.{Any-push}
use Rattle.read_planner.specs.declared.Read.{Read}
use Rattle.read_planner.specs.declared.place.Place.{Place}
use Rattle.read_planner.specs.Read.{end_of}
use Rattle.read_planner.specs.Allowed.{IsAllowed, AreAllowed, HoldsWhole, IsHeld, HoldsAll}
use Rattle.read_planner.specs.Chosen.{IsNext, AreNext, AreChosen}
use Rattle.read_planner.specs.Walk.{IsPlace}
use Rattle.read_planner.proofs.Members.{any_append, any_moved}
use Rattle.read_planner.proofs.Pigeons.{AnyOf, AreApart, any_of, pigeons}
use Rattle.read_planner.proofs.Cutting.{cut, read_between}

-- a read that is allowed and holds the point
abbrev Serves : List Place → ℕ → Place → Read → Type 0
Serves places gap place read = IsAllowed places gap read × HoldsWhole read place

-- a point that lies in an allowed read with the first one, and behind it, lies in the next read
in_next : (places : List Place) (gap : ℕ) (earlier : List Read) (read : Read) (next : IsNext places gap earlier read)
    → next.first.start < next.first.end → (other : Place) → Contains places other → next.first.function ≡ other.function → next.first.start ≤ other.start
    → (both : Read) → IsAllowed places gap both → HoldsWhole both next.first → HoldsWhole both other → HoldsWhole read other
in_next places gap earlier read next some other c function later both allowed one two =
    let there = cut places gap both next.first.start allowed one.start (omega (arith, one.end)) in
    let longer = next.is_longest.greatest (read_between both.function next.first.start (end_of both)) there (one.function ∙ sym next.function.1) (sym next.start.1) in
    let lies : HoldsWhole next.longest other = record {
      function = next.function.1 ∙ function;
      start = omega (arith, next.start.1);
      end = omega (arith, next.start.1, two.end, one.end, longer);
    } in
    record {
      function = next.function.0 ∙ function;
      start = omega (arith, next.start.0);
      end = All-contains (λ (place : Place). HoldsWhole next.longest place → place.end ≤ end_of read) places other next.ends.greatest c lies;
    }

-- no allowed read holds the first point and one that the next read leaves
apart : (places : List Place) (gap : ℕ) (earlier : List Read) (read : Read) (next : IsNext places gap earlier read)
    → next.first.start < next.first.end → (other : Place) → Contains places other → (IsHeld earlier other → ⊥) → (HoldsWhole read other → ⊥)
    → (both : Read) → Serves places gap next.first both → Serves places gap other both → ⊥
apart places gap earlier read next some other c left missed both one two =
    elim (next.begins.least other c left) [
      | inl less ↦ absurd (omega (arith, less, one.1.function, two.1.function))
      | inr (function, later) ↦ missed (in_next places gap earlier read next some other c function later both one.0 one.1 two.1)
    ]

-- the points with which reads begin
record Starts (places : List Place) (gap : ℕ) (earlier later : List Read) : Type 0 where
  pub firsts : List Place
  pub count : length firsts ≡ length later
  pub left : AllByRecursion (λ place. Contains places place × (IsHeld earlier place → ⊥)) firsts
  pub apart : AreApart (Serves places gap) firsts

-- what follows of each element
each_of : {X : Type 0} (P Q : X → Type 0) → ((x : X) → P x → Q x) → (xs : List X) → AllByRecursion P xs → AllByRecursion Q xs
each_of P Q f [] p = tt
each_of P Q f (x ∷ xs) (p, ps) = (f x p, each_of P Q f xs ps)

-- each read begins with a point, and no allowed read holds two of these
starts : (places : List Place) (gap : ℕ) → All (λ (place : Place). place.start < place.end) places → (earlier later : List Read) → AreNext places gap earlier later → Starts places gap earlier later
starts places gap some earlier [] chosen = record { firsts = []; count = refl; left = tt; apart = tt }
starts places gap some earlier (read ∷ later) (next, chosen) =
    let s = starts places gap some (earlier ++ read ∷ []) later chosen in
    let now = λ (place : Place). Contains places place × (IsHeld (earlier ++ read ∷ []) place → ⊥) in
    let first_some = All-contains (λ (place : Place). place.start < place.end) places next.first some next.begins.among in
    record {
      firsts = next.first ∷ s.firsts;
      count = ap suc s.count;
      left = (
        (next.begins.among, next.begins.left),
        each_of now (λ place. Contains places place × (IsHeld earlier place → ⊥))
            (λ place (c, out). (c, λ held. out (any_append (λ (read : Read). HoldsWhole read place) earlier (read ∷ []) held))) s.firsts s.left,
      );
      apart = (
        each_of now (λ other. (both : Read) → Serves places gap next.first both → Serves places gap other both → ⊥)
            (λ other (c, out). apart places gap earlier read next first_some other c
            (λ held. out (any_append (λ (read : Read). HoldsWhole read other) earlier (read ∷ []) held))
            (λ held. out (Any-push (λ (read : Read). HoldsWhole read other) earlier read held)))
            s.firsts s.left,
        s.apart,
      );
    }

-- so each needs a read of its own in any other list
pub fewest : (places : List Place) (gap : ℕ) (reads : List Read) → All IsPlace places → AreChosen places gap reads
    → (others : List Read) → AreAllowed places gap others → HoldsAll others places → length reads ≤ length others
fewest places gap reads each chosen others allowed holds =
    let some = All-weaker IsPlace (λ (place : Place). place.start < place.end) (λ place is. is.some) places each in
    let s = starts places gap some [] reads chosen in
    let served = each_of (λ place. Contains places place × (IsHeld [] place → ⊥)) (λ place. AnyOf (Serves places gap place) others)
    (λ place (c, out). any_of (Serves places gap place) others
    (any_moved (λ (read : Read). HoldsWhole read place) (Serves places gap place) others others
    (λ read in' whole. (in', (All-contains (IsAllowed places gap) others read allowed in', whole)))
    (All-contains (IsHeld others) places place holds c)))
    s.firsts s.left in
    let few = pigeons (Serves places gap) s.firsts others served s.apart in
    omega (arith, few, s.count)
