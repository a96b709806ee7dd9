use Rattle.std.proofs.Common.{◌∙◌, arith, subst, sym}
use Rattle.sunspec.specs.Value.{AreRegistersOf}
use Rattle.sunspec.proofs.Arranged.{reversed_registers}
use Rattle.sunspec.proofs.Table.{short_row, some_registers}
use Rattle.sunspec.proofs.shown.shown_swapped.Goals as goal

pub swapped-words-requires : goal.swapped-words-requires
swapped-words-requires c = record {
  some = omega (arith, some_registers c.args.kind.now c.requires.sized, c.requires.registers.count);
  few = omega (arith, short_row c.args.kind.now c.requires.sized, c.requires.registers.count);
}

pub shown_text-requires-clause-registers : goal.shown_text-requires-clause-registers
shown_text-requires-clause-registers c =
    subst (AreRegistersOf c.args.kind.now) (sym (c.as_slice.ensures.value ∙ c.swapped-words.ensures)) (reversed_registers c.args.kind.now c.args.words.now c.requires.registers)
