use Rattle.std.proofs.Common.{◌<◌, ◌||◌, ◌++◌, ◌∷◌, [], ◌∙◌, ap, sym, length, arith}
use Rattle.run_beat.proofs.Steps.{any_more-push, next_steps}
use Rattle.run_beat.proofs.turns.call_each.Goals as goal

pub loop-member-preserved : goal.loop-member-preserved
loop-member-preserved g c =
    let so_far = c.loop-member.invariant in
    let more = c.call-is_more.result in
    let within : c.loop-member.member-index < length c.loop-member.members = omega (arith, c.loop-member.auto.members, c.loop-member-test.true) in
    let stepped = next_steps g.M.Called.steps _ _ _ _ so_far.0 _ c.member-item.result more _ _ within so_far.1 c.call-is_more.ensures in
    (so_far.0 ++ more ∷ [], stepped, ap (λ b. b || more) so_far.2 ∙ sym (any_more-push so_far.0 more))
