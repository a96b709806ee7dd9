use Rattle.mb_map.proofs.BitCells.{range_bits}
use Rattle.mb_map.proofs.cells.Cells.bits.Goals as goal

pub bits_of-requires-clause-bits : goal.bits_of-requires-clause-bits
bits_of-requires-clause-bits c = range_bits c.args.span.start c.range.result.now c.args.self.now c.requires.bits c.range.ensures.numbers
