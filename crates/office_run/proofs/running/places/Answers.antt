use Rattle.std.proofs.Common.{◌≡◌, List, ◌+◌, ℕ, length, ◌∙◌, ap, sym, subst, arith}
use Rattle.std.proofs.lemmas.List.{length_push}
use Rattle.run_callers.specs.declared.place.Place.{Place}
use Rattle.office_run.specs.Beginnings.{AreEmpty}
use Rattle.office_run.proofs.Beginning.{one_more_empty}
use Rattle.office_run.proofs.running.places.Goals as goal

pub loop-at-init : goal.loop-at-init
loop-at-init c = (subst (λ (places : List Place). AreEmpty 0 places) (sym c.new-places.ensures.items) tt, ap length c.new-places.ensures.items)

pub loop-at-preserved : goal.loop-at-preserved
loop-at-preserved c =
    let so_far = c.loop-at.invariant in
    let pushed = c.in_ok-push.ensures.items in (
      subst (λ (places : List Place). AreEmpty 0 places) (sym pushed)
          (one_more_empty 0 c.loop-at.places.items c.new.result so_far.0 (omega (arith, c.new.ensures.at, so_far.1)) c.new.ensures.free),
      ap length pushed ∙ length_push c.loop-at.places.items c.new.result ∙ ap (λ (n : ℕ). n + 1) so_far.1,
    )

pub returns : goal.returns
returns c =
    let full : c.loop-at.at ≡ 64 = omega (arith, c.loop-at-test.false, c.loop-at.auto.at-end) in
    (c.loop-at.invariant.0, c.loop-at.invariant.1 ∙ full)
