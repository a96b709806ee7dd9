use Rattle.std.proofs.Common.{arith}
use Rattle.sunspec.proofs.CommonModel.{number_part, text_part}
use Rattle.sunspec.proofs.common_model.common_in.Goals as goal

pub read_value-requires-clause-registers : goal.read_value-requires-clause-registers
read_value-requires-clause-registers c = text_part c.args.words.now 0 16 (omega (arith, c.requires))

pub read_value-requires-2-clause-registers : goal.read_value-requires-2-clause-registers
read_value-requires-2-clause-registers c = text_part c.args.words.now 16 16 (omega (arith, c.requires))

pub read_value-requires-3-clause-registers : goal.read_value-requires-3-clause-registers
read_value-requires-3-clause-registers c = text_part c.args.words.now 32 8 (omega (arith, c.requires))

pub read_value-requires-4-clause-registers : goal.read_value-requires-4-clause-registers
read_value-requires-4-clause-registers c = text_part c.args.words.now 40 8 (omega (arith, c.requires))

pub read_value-requires-5-clause-registers : goal.read_value-requires-5-clause-registers
read_value-requires-5-clause-registers c = text_part c.args.words.now 48 16 (omega (arith, c.requires))

pub read_value-requires-6-clause-registers : goal.read_value-requires-6-clause-registers
read_value-requires-6-clause-registers c = number_part c.args.words.now 64 (omega (arith, c.requires))
