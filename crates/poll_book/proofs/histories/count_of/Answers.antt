use Rattle.std.proofs.Common.{sym, arith}
use Rattle.poll_book.proofs.Rooms.{count_none}
use Rattle.poll_book.proofs.histories.count_of.Goals as goal

pub returns-then-bound-from : goal.returns-then-bound-from
returns-then-bound-from c =
    sym (count_none c.args.rows.now c.args.bound c.args.point c.requires (omega (arith, c.if-bound-from.true, c.from.ensures)))
