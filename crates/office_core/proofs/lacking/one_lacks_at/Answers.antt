use Rattle.std.proofs.Common.{◌∙◌, sym}
use Rattle.office_core.specs.Lacking.{brings_new}
use Rattle.office_core.proofs.ByDevice.{any_so, none_more}
use Rattle.office_core.proofs.lacking.one_lacks_at.Goals as goal

pub returns-then-branch-clause-value : goal.returns-then-branch-clause-value
returns-then-branch-clause-value g c = λ clean kept held.
    any_so (brings_new kept.readings c.args.device.now c.args.slot c.args.read.now) c.args.known.now c.args.places.now c.loop-place.place-index c.loop-place-test.true
    (sym (c.in_ok-lacks_at.ensures.value clean kept (c.loop-place.invariant.same kept held)) ∙ c.if-branch.true)

pub loop-place-preserved : goal.loop-place-preserved
loop-place-preserved g c =
    let inv = c.loop-place.invariant in
    let looked = c.lacks_at.ensures in
    record {
      counted = c.in_ok-lacks_at.ensures.cause.2 ∙ inv.counted;
      same = λ kept held. looked.same kept (inv.same kept held);
      leaves = λ clean left may. inv.leaves (looked.clean clean) left (looked.leaves clean left may);
      clean = λ clean. inv.clean (looked.clean clean);
      value = λ clean kept held.
          none_more (brings_new kept.readings c.args.device.now c.args.slot c.args.read.now) c.args.known.now c.args.places.now c.loop-place.place-index c.loop-place-test.true
          (inv.value (looked.clean clean) kept held) (sym (c.in_ok-lacks_at.ensures.value clean kept (inv.same kept held)) ∙ c.if-branch.false);
    }
