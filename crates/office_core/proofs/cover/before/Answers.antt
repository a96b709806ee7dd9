use Rattle.std.proofs.Common.{ℕ, List, ltb, rules, subst, sym, arith, take}
use Rattle.std.specs.List.Sorted.{IsNonDecreasingBy}
use Rattle.std.proofs.lemmas.List.{length-take}
use Rattle.std.proofs.lemmas.List.Sorted.{IsPartitionPoint-from_clause, IsPartitionedBy-ltb}
use Rattle.office_core.proofs.ByDevice.{front_of, places_rise}
use Rattle.office_core.proofs.cover.before.Goals as goal

pub returns : goal.returns
returns c = λ known device is.
    let places = c.args.places.now in
    let count = c.args.count in
    let few = length-take count known in
    let rise = subst (λ (l : List ℕ). IsNonDecreasingBy (λ (place : ℕ). place) l) (sym is) (places_rise 0 device known) in
    let at =
    IsPartitionPoint-from_clause (λ (place : ℕ). ltb place count) places c.partition_point.result c.partition_point.ensures.partitioned
    (IsPartitionedBy-ltb (λ (place : ℕ). place) places count rise) (λ a r f called. search rules) in
    front_of (take count known) known device places c.partition_point.result count is (omega (arith, few)) at.1
