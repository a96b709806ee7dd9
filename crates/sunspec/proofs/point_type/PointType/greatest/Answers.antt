use Rattle.std.proofs.Common.{arith, ap, ◌∙◌}
use Rattle.sunspec.specs.PointType.{bits}
use Rattle.sunspec.proofs.Table.{few_bits}
use Rattle.sunspec.proofs.point_type.PointType.greatest.Goals as goal

pub greatest_of-requires : goal.greatest_of-requires
greatest_of-requires c =
    let same = c.bits.ensures ∙ ap (λ row. bits row.content row.registers) c.row.ensures in
    omega (arith, same, few_bits c.args.self.now)
