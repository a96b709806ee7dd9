use Rattle.std.proofs.Common.{inr, refl, ◌+◌, subst, arith}
use Rattle.sunspec.specs.Sources.{IsRead}
use Rattle.sunspec.proofs.CommonModel.{lacks_last, lacks_one}
use Rattle.sunspec.proofs.common_model.common_words.Goals as goal

pub returns-then-address-gt65469-clause-refused : goal.returns-then-address-gt65469-clause-refused
returns-then-address-gt65469-clause-refused g c known e = inr (refl, lacks_last known c.args.address (omega (arith, c.if-address-gt65469.true)))

pub returns-in-None-clause-refused : goal.returns-in-None-clause-refused
returns-in-None-clause-refused g c known e =
    inr (refl, lacks_one known c.args.address (subst (IsRead known (c.args.address + 2) 65) c.in-None.is (c.in_ok-words.ensures.known known e)))
