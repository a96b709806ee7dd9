use Rattle.std.proofs.Common.{arith}
use Rattle.mb_mbap.proofs.Spelling.{whole-means}
use Rattle.mb_mbap.proofs.judging.step_of.Goals as goal

pub returns : goal.returns
returns c =
    whole-means c.args.bytes.now c.in-Some.unit c.read_u16-in-Some.result c.read_u16-length.result c.read_u16.result
    c.if-bytes-lt6.false c.if-bytes-length.false c.if-length-lt2.false c.if-length-gt254.false
    c.read_u16.ensures c.if-read_u16-ne0.false c.read_u16-length.ensures c.read_u16-in-Some.ensures c.read_u16-in-Some.type_inv
    (λ k. let f = c.type_inv.bytes k in omega (arith, f)) c.in-Some.ensures.value
