use Rattle.std.proofs.Common.{◌≢◌, ◌≤◌, ◌∙◌, get_or, sym, arith, eq-eqb}
use borrow.Author.Tests.{eqb-true}
use Rattle.std.proofs.lemmas.Bool.Decides.{nat_tests}
use Rattle.sunspec.specs.declared.point_type.PointType.TheVariants.{Bit}
use Rattle.sunspec.proofs.Table.{bit_is, others_count}
use Rattle.sunspec.proofs.point_type.PointType.has_registers.Goals as goal

pub returns-then-words-eq1 : goal.returns-then-words-eq1
returns-then-words-eq1 c =
    let words = c.args.words.now in
    rw c.in-Bit.is ((λ test. (bit_is words).1 (c.if-words-eq1.true, grind (arith, nat_tests))), (λ are. let fits : get_or words 0 0 ≤ 1 = ((bit_is words).0 are).1 in grind (arith, nat_tests)))

pub returns-else-words-eq1 : goal.returns-else-words-eq1
returns-else-words-eq1 c =
    let words = c.args.words.now in
    rw c.in-Bit.is ((λ test. absurd (grind (arith, nat_tests))), (λ are. absurd (c.if-words-eq1.false ((bit_is words).0 are).0)))

pub returns-in_default : goal.returns-in_default
returns-in_default c =
    let words = c.args.words.now in
    let other : c.args.self.now ≢ Bit = c.in_default.not-Bit in
    let either = others_count c.args.self.now words other in
    let is = c.registers.ensures in
    ((λ test. either.1 (eqb-true _ _ test ∙ is)), (λ are. eq-eqb _ _ (either.0 are ∙ sym is)))
