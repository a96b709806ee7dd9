use Rattle.std.proofs.Common.{◌+◌, ◌-◌, ◌*◌, ◌<◌, ℕ, get_or, length, sym, arith}
use Rattle.std.specs.Char.{is_ascii_digit}
use Rattle.sunspec.proofs.Numbers.{value_more, digits_more, stops, digit_taken, digit_refused}
use Rattle.sunspec.proofs.digits.within.Goals as goal

pub returns-in_err-number : goal.returns-in_err-number
returns-in_err-number c =
    let text = c.args.text.now in
    let i : ℕ = c.loop-byte.byte-index in
    let refused = digit_refused (is_ascii_digit (get_or text i 0)) (10 * c.loop-byte.number + (get_or text i 0 - 48)) c.args.limit c.in_err-number.ensures in
    rw c.from_residual.ensures
    (sym (stops text i c.args.limit c.loop-byte-test.true (rw c.loop-byte.invariant.0 at refused)))

pub loop-byte-preserved : goal.loop-byte-preserved
loop-byte-preserved c =
    let text = c.args.text.now in
    let i : ℕ = c.loop-byte.byte-index in
    let lt : i < length text = c.loop-byte-test.true in
    let taken = digit_taken (is_ascii_digit (get_or text i 0)) (10 * c.loop-byte.number + (get_or text i 0 - 48)) c.args.limit c.in_ok-number.number c.in_ok-number.ensures in
    (omega (arith, taken.1, c.loop-byte.invariant.0, value_more text i lt taken.0), digits_more text i lt c.loop-byte.invariant.1 taken.0, omega (arith, taken.1, taken.2))
