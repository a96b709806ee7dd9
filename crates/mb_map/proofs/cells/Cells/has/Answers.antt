use Rattle.std.proofs.Common.{arith}
use Rattle.std.proofs.lemmas.Bool.Decides.{nat_tests}
use Rattle.mb_map.proofs.Ranges.{whole_begins, whole_ends, whole_between}
use Rattle.mb_map.proofs.cells.Cells.has.Goals as goal

pub returns-then-self-start : goal.returns-then-self-start
returns-then-self-start c =
    let s = c.self.inside.start in
    let xs = c.self.inside.numbers.items in
    rw (← c.self.view_is) (
      (λ fits. whole_between s xs c.args.start c.args.quantity (grind (arith, nat_tests)) (grind (arith, nat_tests))),
      (λ whole. let ends = whole_ends s xs c.args.start c.args.quantity c.requires.some whole in grind (arith, nat_tests)),
    )

pub returns-else-self-start : goal.returns-else-self-start
returns-else-self-start c =
    let s = c.self.inside.start in
    let xs = c.self.inside.numbers.items in
    rw (← c.self.view_is) (
      (λ fits. absurd (grind (arith, nat_tests))),
      (λ whole. let begins = whole_begins s xs c.args.start c.args.quantity c.requires.some whole in grind (arith, nat_tests)),
    )
