use Rattle.std.proofs.Common.{◌≤◌, ◌+◌, ◌-◌, ◌^◌, rules, refl, sym, ap, ◌∙◌, arith}
use Rattle.std.specs.Prelude.{unwrap_or}
use Rattle.poll_book.specs.Changes.{uncounted}
use Rattle.poll_book.specs.Totals.{removed, total}
use Rattle.poll_book.proofs.Bounds.{total_bound}
use Rattle.poll_book.proofs.Repairs.{removed_is}
use Rattle.poll_book.proofs.voiding.total_without.Goals as goal

-- `search rules` shows that a keeper was clean before each call, and held these tables
pub returns-clause-value : goal.returns-clause-value
returns-clause-value g c clean kept holds sorted stored there found counts =
    let known = c.args.point.now in
    let roll = known.point.roll in
    let slot = c.args.slot in
    let is_total = c.in_ok-total.ensures.value (search rules) kept (search rules) ∙ ap (λ o. unwrap_or o 0) stored in
    let is_before = c.in_ok-before.ensures.value (search rules) kept (search rules) in
    let is_after = c.in_ok-after.ensures.value (search rules) kept (search rules) in
    let slots = c.in_ok-total.ensures.slots (search rules) kept (search rules) in
    let small = total_bound known kept.readings sorted slots in
    let room : total known kept.readings + (roll + 1) ≤ 2 ^ 127 - 1 = omega (arith, small, c.ranges) in
    λ i. (
      known.number,
      (c.removed.ensures
          ∙ (λ j. removed (is_total j) (is_before j) c.args.value (is_after j) roll)
          ∙ sym (removed_is known slot c.args.value there (uncounted there.words) kept.readings sorted found counts refl room)) i,
    )
