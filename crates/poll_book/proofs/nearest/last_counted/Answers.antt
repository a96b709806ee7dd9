use Rattle.std.proofs.Common.{◌≡◌, ◌-◌, suc, subst, sym, [], drop, ◌∙◌, arith}
use Rattle.poll_book.specs.Histories.{counted_in}
use Rattle.poll_book.proofs.Slots.{last_here}
use Rattle.poll_book.proofs.nearest.last_counted.Goals as goal

pub returns-in-Some-clause-value : goal.returns-in-Some-clause-value
returns-in-Some-clause-value c =
    let at = c.loop-place.place - 1 in
    let behind : c.loop-place.place ≡ suc at = omega (arith, c.loop-place-test.true) in
    last_here c.args.point.now c.args.slots.now at c.index-slots-place.result (omega (arith, c.loop-place-test.true, c.loop-place.invariant.in_range)) c.in-Some.number
    (subst (λ n. counted_in c.args.point.now (drop n c.args.slots.now) ≡ []) behind c.loop-place.invariant.none)
    (sym c.number_of.ensures.number ∙ c.in-Some.is)
