use Rattle.std.proofs.Common.{◌≤◌, arith}
use Rattle.mb_map.proofs.BitCells.{bits_set}
use Rattle.mb_map.proofs.mapping.Mapping.set.Goals as goal

pub invariant_of-self : goal.invariant_of-self
invariant_of-self c =
    let bit : c.args.number ≤ 1 = omega (arith, rw c.in-Coil.is at c.greatest.ensures) in
    (bits_set c.set.result c.self.inside.coils c.set.new.self c.args.address c.args.number c.set.ensures.done c.set.ensures.refused bit c.self.invariant.0, c.self.invariant.1)

pub invariant_of-self-in-Discrete : goal.invariant_of-self-in-Discrete
invariant_of-self-in-Discrete c =
    let bit : c.args.number ≤ 1 = omega (arith, rw c.in-Discrete.is at c.greatest.ensures) in
    (c.self.invariant.0, bits_set c.set-in-Discrete.result c.self.inside.discrete c.set-in-Discrete.new.self c.args.address c.args.number c.set-in-Discrete.ensures.done c.set-in-Discrete.ensures.refused bit c.self.invariant.1)
