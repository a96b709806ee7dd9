use Rattle.mb_map.proofs.BitCells.{small_cells}
use Rattle.mb_map.proofs.image.cells_at.Goals as goal

pub returns-clause-small : goal.returns-clause-small
returns-clause-small c = rw c.from_numbers.ensures (small_cells c.in_ok-start.start c.in_ok-numbers.numbers.items c.args.greatest c.in_ok-numbers.ensures.within)
