use Rattle.std.proofs.Common.{length, arith, ap}
use Rattle.sunspec.proofs.Texts.{over_zeros}
use Rattle.sunspec.proofs.fixed_text.FixedText.from_bytes.Goals as goal

pub invariant_of-result : goal.invariant_of-result
invariant_of-result g c = over_zeros g.row.CAP (length c.args.bytes.now) c.copy_from_slice.new.self (ap length c.copy_from_slice.ensures.after) (omega arith)
