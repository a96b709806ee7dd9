use Rattle.std.proofs.Common.{◌<◌, length, sym, arith}
use Rattle.sunspec.proofs.PrintableBytes.{printable_more}
use Rattle.sunspec.proofs.shown.printable_text.Goals as goal

pub loop-byte-preserved : goal.loop-byte-preserved
loop-byte-preserved c =
    let bytes = c.args.bytes.now in
    let i = c.loop-byte.byte-index in
    let lt : i < length bytes = omega (arith, c.loop-byte-test.true) in
    let small : c.from.result < 128 = omega (arith, c.from.ensures, c.printable.ensures.ascii) in
    rw (c.in_ok-push.ensures.bytes, c.in_ok-push.ensures.ascii small, c.from.ensures, c.printable.ensures.shown, c.loop-byte.invariant) (sym (printable_more bytes i lt))
