use Rattle.std.proofs.Common.{ℕ, List, arith, ap, refl, ◌∙◌}
use Rattle.std.specs.BTreeMap.{is_at}
use Rattle.std.specs.List.{list_any}
use Rattle.std.specs.Ordering.{nat_cmp}
use Rattle.office_store.proofs.Behind.{free, known_end}
use Rattle.office_store.proofs.ends.voids_between.Goals as goal

pub returns-then-is_behind-clause-value : goal.returns-then-is_behind-clause-value
returns-then-is_behind-clause-value g c clean kept holds ends slot low high =
    let known = c.if-is_behind.ensures.0 refl in
    let all = known_end c.args.ends.now.known.items kept.voids c.args.point known.0 (ends clean) known.1 in
    ap (λ (keys : List ℕ). list_any (is_at (nat_cmp slot)) keys) c.new.ensures.empty ∙ free c.args.point slot known.0 kept.voids all (omega (arith, known.2, low))

pub returns-clause-value : goal.returns-clause-value
returns-clause-value g c clean kept holds ends = c.slots_between.ensures.value clean kept holds
