-- Plans of places that stand in another order.
use Rattle.std.proofs.Common.{◌≡◌, ◌≤◌, ℕ, List, [], ◌∷◌, ◌++◌}
use Rattle.std.specs.Prelude.{Contains}
use Rattle.std.specs.Prelude.{IsPermutation}
use Rattle.std.proofs.lemmas.List.Elements.{All-contains, All-weaker}
use Rattle.std.proofs.lemmas.List.Sorted.{Contains-permutation, IsPermutation-sym}
use Rattle.read_planner.specs.declared.Read.{Read}
use Rattle.read_planner.specs.declared.place.Place.{Place}
use Rattle.read_planner.specs.Read.{end_of}
use Rattle.read_planner.specs.Allowed.{IsAllowed, AreAllowed, HoldsWhole, IsHeld, HoldsAll}
use Rattle.read_planner.specs.Chosen.{IsNext, AreNext}
use Rattle.read_planner.specs.Walk.{IsPlan}
use Rattle.read_planner.proofs.Members.{all_in, any_moved}
use Rattle.read_planner.proofs.Reaching.{more_bridged}

-- whatever is in the one list is in the other
abbrev pub IsWithin : List Place → List Place → Type 0
IsWithin xs ys = (x : Place) → Contains xs x → Contains ys x

-- what is allowed among the one is allowed among the other
allowed_moved : (xs ys : List Place) (gap : ℕ) → IsWithin xs ys → (read : Read) → IsAllowed xs gap read → IsAllowed ys gap read
allowed_moved xs ys gap move read allowed = record {
  valid = allowed.valid;
  inside = allowed.inside;
  bridged = λ address from below. more_bridged xs ys gap read.function address move (allowed.bridged address from below);
}

are_allowed_moved : (xs ys : List Place) (gap : ℕ) → IsWithin xs ys → (reads : List Read) → AreAllowed xs gap reads → AreAllowed ys gap reads
are_allowed_moved xs ys gap move reads allowed = All-weaker (IsAllowed xs gap) (IsAllowed ys gap) (allowed_moved xs ys gap move) reads allowed

-- reads that hold the one hold the other
holds_moved : (xs ys : List Place) → IsWithin ys xs → (reads : List Read) → HoldsAll reads xs → HoldsAll reads ys
holds_moved xs ys back reads holds = all_in (IsHeld reads) ys (λ x c. All-contains (IsHeld reads) xs x holds (back x c))

-- a next read of the one is a next read of the other
next_moved : (xs ys : List Place) (gap : ℕ) → IsWithin xs ys → IsWithin ys xs → (earlier : List Read) (read : Read) → IsNext xs gap earlier read → IsNext ys gap earlier read
next_moved xs ys gap move back earlier read next = record {
  first = next.first;
  begins = record {
    among = move next.first next.begins.among;
    left = next.begins.left;
    least = λ other c left. next.begins.least other (back other c) left;
  };
  longest = next.longest;
  is_longest = record {
    allowed = allowed_moved xs ys gap move next.longest next.is_longest.allowed;
    greatest = λ other allowed function start. next.is_longest.greatest other (allowed_moved ys xs gap back other allowed) function start;
  };
  function = next.function;
  start = next.start;
  ends = record {
    some = let P = λ (place : Place). HoldsWhole next.longest place × (place.end ≡ end_of read) in any_moved P P xs ys (λ x c p. (move x c, p)) next.ends.some;
    greatest = let P = λ (place : Place). HoldsWhole next.longest place → place.end ≤ end_of read in all_in P ys (λ x c. All-contains P xs x next.ends.greatest (back x c));
  };
}

-- and so are all reads that are chosen
chosen_moved : (xs ys : List Place) (gap : ℕ) → IsWithin xs ys → IsWithin ys xs → (earlier later : List Read) → AreNext xs gap earlier later → AreNext ys gap earlier later
chosen_moved xs ys gap move back earlier [] chosen = tt
chosen_moved xs ys gap move back earlier (read ∷ later) (next, chosen) =
    (next_moved xs ys gap move back earlier read next, chosen_moved xs ys gap move back (earlier ++ read ∷ []) later chosen)

-- a plan of the places in one order is one of the places in another
pub plan_moved : (xs ys : List Place) (gap : ℕ) (reads : List Read) → IsPermutation xs ys → IsPlan ys gap reads → IsPlan xs gap reads
plan_moved xs ys gap reads moved plan =
    let back : IsWithin xs ys = λ x c. Contains-permutation xs ys x moved c in
    let move : IsWithin ys xs = λ x c. Contains-permutation ys xs x (IsPermutation-sym xs ys moved) c in
    record {
      allowed = are_allowed_moved ys xs gap move reads plan.allowed;
      whole = holds_moved ys xs back reads plan.whole;
      chosen = chosen_moved ys xs gap move back [] reads plan.chosen;
    }
