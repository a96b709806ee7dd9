use Rattle.std.proofs.Common.{◌+◌, ◌<◌, length, ◌∙◌, Bool, get_or, sym, ap, arith}
use Rattle.std.specs.Prelude.{◌&&◌, ◌==◌}
use Rattle.std.proofs.lemmas.Bool.{and_parts}
use Rattle.office_core.proofs.Numbered.{numbered_more}
use Rattle.office_core.proofs.by_number.ByNumber.catch_up.Goals as goal

pub loop-self-preserved : goal.loop-self-preserved
loop-self-preserved c =
    let known = c.args.known.now in
    let d = c.index-known-self.result in
    let i = c.loop-self.self.count in
    let lt : i < length known = omega (arith, c.loop-self-test.true) in (
      omega (arith, lt),
      λ h.
          let (before, here) = and_parts c.loop-self.self.in_order ((get_or known i d).number == i + 1) (sym c.goes_on-self.ensures ∙ h) in
          numbered_more known i d lt
          ∙ ap (λ (b : Bool). b && ((get_or known i d).number == i + 1)) (c.loop-self.invariant.1 before)
          ∙ here,
    )
