use Rattle.mb_map.proofs.BitCells.{bits_cell}
use Rattle.mb_map.proofs.mapping.Mapping.get.Goals as goal

pub returns-in-Coil-clause-small : goal.returns-in-Coil-clause-small
returns-in-Coil-clause-small c = rw (c.get.ensures, c.in-Coil.is) (bits_cell c.args.address c.self.inside.coils c.self.invariant.0)

pub returns-in-Discrete-clause-small : goal.returns-in-Discrete-clause-small
returns-in-Discrete-clause-small c = rw (c.get-in-Discrete.ensures, c.in-Discrete.is) (bits_cell c.args.address c.self.inside.discrete c.self.invariant.1)
