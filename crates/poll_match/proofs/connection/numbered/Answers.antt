use Rattle.std.proofs.Common.{arith}
use Rattle.poll_match.proofs.Numbers.{numbered_kept, numbered_none}
use Rattle.poll_match.proofs.connection.numbered.Goals as goal

pub returns-then-number-made : goal.returns-then-number-made
returns-then-number-made c =
    numbered_kept c.args.transaction c.args.made c.first_number-first.result c.from.result c.first_number-first.ensures c.from.ensures (omega arith) c.if-number-made.true

pub returns-else-number-made : goal.returns-else-number-made
returns-else-number-made c =
    numbered_none c.args.transaction c.args.made c.first_number-first.result c.from.result c.first_number-first.ensures c.from.ensures (omega arith) c.if-number-made.false
