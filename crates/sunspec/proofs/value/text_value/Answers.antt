use Rattle.std.proofs.Common.{◌≡◌, ◌∙◌, sym, true, false, eqb, refl}
use Rattle.sunspec.specs.Value.{register_sum}
use Rattle.sunspec.proofs.Sums.{are_zero-sum}
use Rattle.sunspec.proofs.value.text_value.Goals as goal

pub returns-then-are_zero : goal.returns-then-are_zero
returns-then-are_zero c =
    let test : eqb (register_sum c.args.words.now) 0 ≡ true = sym (are_zero-sum c.args.words.now) ∙ sym c.are_zero.ensures ∙ c.if-are_zero.true in
    rw test refl

pub returns : goal.returns
returns c =
    let test : eqb (register_sum c.args.words.now) 0 ≡ false = sym (are_zero-sum c.args.words.now) ∙ sym c.are_zero.ensures ∙ c.if-are_zero.false in
    rw (test, c.text_before_zero.ensures, c.bytes_of-bytes.ensures) refl
