use Rattle.std.proofs.Common.{inr, refl, arith}
use Rattle.sunspec.proofs.Walked.{none_long}
use Rattle.sunspec.proofs.discovery.length_at.Goals as goal

pub returns-then-address-gt65533-clause-refused : goal.returns-then-address-gt65533-clause-refused
returns-then-address-gt65533-clause-refused g c known e = inr (refl, none_long known c.args.address (omega (arith, c.if-address-gt65533.true)))
