use Rattle.std.proofs.Common.{arith, ap, length}
use Rattle.mb_mbap.proofs.Whole.{all_taken, some_left, bad_header}
use Rattle.mb_mbap.proofs.decoding.whole.Goals as goal

pub returns-then-bytes-as_bytes-clause-fault : goal.returns-then-bytes-as_bytes-clause-fault
returns-then-bytes-as_bytes-clause-fault c =
    let long = ap length c.as_bytes.ensures.value in
    some_left c.args.bytes.now c.in-Whole.frame c.in-Whole.ensures (omega (arith, long, c.if-bytes-as_bytes.true))

pub returns-in-Bad-clause-fault : goal.returns-in-Bad-clause-fault
returns-in-Bad-clause-fault c = bad_header c.args.bytes.now c.in-Bad.fault c.in-Bad.ensures

pub returns-else-bytes-as_bytes-clause-frame : goal.returns-else-bytes-as_bytes-clause-frame
returns-else-bytes-as_bytes-clause-frame c =
    let long = ap length c.as_bytes.ensures.value in
    all_taken c.args.bytes.now c.in-Whole.frame c.in-Whole.ensures (omega (arith, long, c.if-bytes-as_bytes.false))
