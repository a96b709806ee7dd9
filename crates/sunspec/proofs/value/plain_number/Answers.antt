use Rattle.std.proofs.Common.{◌≡◌, ◌∙◌, ◌<◌, ◌^◌, ap, arith}
use Rattle.sunspec.specs.PointType.{TypeRow, bits, bits_of}
use Rattle.sunspec.specs.Value.{register_sum}
use Rattle.sunspec.proofs.Table.{in_table, few_bits, some_bits}
use Rattle.sunspec.proofs.Meanings.{sum_fits}
use Rattle.sunspec.proofs.value.plain_number.Goals as goal

pub register_sum_of-sum-requires : goal.register_sum_of-sum-requires
register_sum_of-sum-requires c = omega (arith, (in_table c.args.kind.now).few c.requires.number, c.requires.registers.count)

pub number_of-requires : goal.number_of-requires
number_of-requires c =
    let kind = c.args.kind.now in
    let same : c.bits.result ≡ bits_of kind = c.bits.ensures ∙ ap (λ (r : TypeRow). bits r.content r.registers) c.row-row.ensures in
    let fits : register_sum c.args.words.now < 2 ^ bits_of kind = sum_fits kind c.args.words.now c.requires.number c.requires.registers (λ i. omega (arith, c.type_inv.words i)) in
    record { some = omega (arith, same, some_bits kind c.requires.number); few = omega (arith, same, few_bits kind); fits = rw (same, c.register_sum_of-sum.ensures) fits }
