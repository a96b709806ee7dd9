use Rattle.std.proofs.Common.{◌<◌, ◌%◌, ◌^◌, ℕ, length, ap, arith}
use Rattle.std.proofs.Math.Nat.{mod-lt}
use Rattle.sunspec.proofs.ScaledTexts.{fraction_fits, power_positive}
use Rattle.sunspec.proofs.scaled.text_with_places.Goals as goal

pub nonzero_div-whole : goal.nonzero_div-whole
nonzero_div-whole c = omega (arith, c.pow-one.ensures, power_positive c.args.places)

pub nonzero_rem-magnitude : goal.nonzero_rem-magnitude
nonzero_rem-magnitude c = omega (arith, c.pow-one.ensures, power_positive c.args.places)

pub overflow_sub-places : goal.overflow_sub-places
overflow_sub-places c =
    let rest : ℕ = c.unsigned_abs-magnitude.result % c.pow-one.result in
    let below : rest < 10 ^ c.args.places = rw (← c.pow-one.ensures) (mod-lt c.unsigned_abs-magnitude.result (omega (arith, c.pow-one.ensures, power_positive c.args.places))) in
    let fits = fraction_fits rest c.args.places c.requires.some c.requires.few below in
    omega (arith, fits, c.len.ensures, ap length c.in_ok-fraction.ensures.ok)
