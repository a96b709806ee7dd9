use Rattle.std.proofs.Common.{◌≡◌, ◌≢◌, ◌∙◌, pos, ap, sym, to_z, of_z}
use Rattle.std.specs.Int.{w128}
use Rattle.std.proofs.lemmas.Int.{to_z-of_z}
use Rattle.sunspec.proofs.ScaledTexts.{signed_small, text_of_product, text_of_nothing}
use Rattle.sunspec.proofs.scaled.text_with_zeros.Goals as goal
use Rattle.sunspec.proofs.scaled.text_with_zeros.Goals.{then-number-ne0+in_ok-push_zeros, else-number-ne0}

pub returns : goal.returns
returns c =
    let number = c.args.number in
    let same = to_z-of_z w128 number c.ranges.number in
    elim c.if-number-ne0.branch [
      | then-number-ne0+in_ok-push_zeros w ↦
          let some : number ≢ pos 0 = λ none. w.if-number-ne0.true (ap (of_z w128) none) in
          rw (w.text-is, w.in_ok-push_zeros.ensures, c.in_ok-text.ensures.ok, same) (text_of_product number c.args.zeros some (signed_small number c.ranges.number) c.requires)
      | else-number-ne0 w ↦
          let none : number ≡ pos 0 = sym same ∙ ap (to_z w128) w.if-number-ne0.false in
          rw (w.text-is, c.in_ok-text.ensures.ok, same) (text_of_nothing number c.args.zeros none)
    ]
