use Rattle.std.proofs.Common.{◌∙◌, ◌<◌, get_or, length, arith}
use Rattle.sunspec.specs.Chains.{IsMarked, bases}
use Rattle.sunspec.proofs.Walked.{first_marked}
use Rattle.sunspec.proofs.discovery.base_of.Goals as goal

pub returns-then-branch-clause-base : goal.returns-then-branch-clause-base
returns-then-branch-clause-base g c known e =
    let i = c.loop-base.base-index in
    let below : i < length bases = omega (arith, c.loop-base-test.true) in
    let here : IsMarked known (get_or bases i 0) = (c.in_ok-is_marked.ensures.marked known (c.loop-base.invariant.same ∙ e)).0 c.if-branch.true in
    first_marked known bases i below (c.loop-base.invariant.unmarked known e) here
