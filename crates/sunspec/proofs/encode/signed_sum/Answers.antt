use Rattle.std.proofs.Common.{◌<◌, ◌-◌, ◌^◌, ◌∙◌, arith}
use Rattle.std.specs.Prelude.{nat_abs}
use Rattle.std.specs.Int.{w128}
use Rattle.std.proofs.lemmas.Int.{to_z-of_z}
use Rattle.sunspec.proofs.Encodings.{below_one, below_one_is, some_power, twos_complement-negative}
use Rattle.sunspec.proofs.encode.signed_sum.Goals as goal

pub returns-clause-some : goal.returns-clause-some
returns-clause-some c =
    let negative = rw (to_z-of_z w128 c.args.number c.ranges.number) at c.if-number-ge0.false in
    let below = below_one_is c.args.number c.greatest_of-greatest.result c.ranges.number negative (omega arith) c.if-below-greatest.false in
    let low : nat_abs (below_one c.args.number) < 2 ^ (c.args.bits - 1) = omega (arith, below.1, c.greatest_of-greatest.ensures, some_power (c.args.bits - 1)) in
    let parts = twos_complement-negative c.args.bits (nat_abs (below_one c.args.number)) c.requires.some low in
    (rw c.greatest_of.ensures parts.0, rw c.greatest_of.ensures (parts.1 ∙ below.0))
