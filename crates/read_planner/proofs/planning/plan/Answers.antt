use Rattle.std.proofs.Common.{List, subst, sym}
use Rattle.std.specs.Prelude.{All, IfOk, IsPermutation}
use Rattle.std.proofs.lemmas.List.Sorted.{All-permutation}
use Rattle.std.proofs.lemmas.Result.{IfOk-weaker}
use Rattle.read_planner.specs.declared.place.Place.{Place}
use Rattle.read_planner.specs.Walk.{AreInOrder, IsPlace, IsPlan}
use Rattle.read_planner.specs.Place.{places_of}
use Rattle.read_planner.proofs.Fewest.{fewest}
use Rattle.read_planner.proofs.Moving.{plan_moved}
use Rattle.read_planner.proofs.Placed.{all_placed}
use Rattle.read_planner.proofs.Orders.{sorted_order}
use Rattle.read_planner.proofs.planning.plan.Goals as goal

pub reads_of-requires-clause-places : goal.reads_of-requires-clause-places
reads_of-requires-clause-places c =
    subst (All IsPlace) (sym c.as_slice.ensures.value)
    (All-permutation IsPlace c.in_ok-places.places.items c.sort_unstable.new.self.items c.sort_unstable.ensures.permutation
    (subst (All IsPlace) (sym c.in_ok-places.ensures) (all_placed c.args.points.now c.requires)))

pub reads_of-requires-clause-order : goal.reads_of-requires-clause-order
reads_of-requires-clause-order c = subst AreInOrder (sym c.as_slice.ensures.value) (sorted_order c.sort_unstable.new.self.items c.sort_unstable.ensures.sorted)

planned : (c : goal.After-drop-places) → IfOk c.reads_of.result (λ reads. IsPlan (places_of c.args.points.now) c.args.gap reads.items)
planned c =
    let moved : IsPermutation (places_of c.args.points.now) c.as_slice.result.now =
    subst (λ (xs : List Place). IsPermutation (places_of c.args.points.now) xs) (sym c.as_slice.ensures.value)
    (subst (λ (xs : List Place). IsPermutation xs c.sort_unstable.new.self.items) c.in_ok-places.ensures c.sort_unstable.ensures.permutation) in
    IfOk-weaker c.reads_of.result (λ reads. IsPlan c.as_slice.result.now c.args.gap reads.items) (λ reads. IsPlan (places_of c.args.points.now) c.args.gap reads.items)
    (λ reads plan. plan_moved (places_of c.args.points.now) c.as_slice.result.now c.args.gap reads.items moved plan) c.reads_of.ensures

pub returns-clause-allowed : goal.returns-clause-allowed
returns-clause-allowed c = IfOk-weaker c.reads_of.result _ _ (λ reads plan. plan.allowed) (planned c)

pub returns-clause-whole : goal.returns-clause-whole
returns-clause-whole c = IfOk-weaker c.reads_of.result _ _ (λ reads plan. plan.whole) (planned c)

pub returns-clause-fewest : goal.returns-clause-fewest
returns-clause-fewest c = IfOk-weaker c.reads_of.result _ _
    (λ reads plan. fewest (places_of c.args.points.now) c.args.gap reads.items (all_placed c.args.points.now c.requires) plan.chosen) (planned c)

pub returns-clause-chosen : goal.returns-clause-chosen
returns-clause-chosen c = IfOk-weaker c.reads_of.result _ _ (λ reads plan. plan.chosen) (planned c)
