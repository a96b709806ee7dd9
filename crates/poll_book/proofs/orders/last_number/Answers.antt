use Rattle.poll_book.proofs.Numbers.{last_is}
use Rattle.poll_book.proofs.orders.last_number.Goals as goal

pub returns-in-Some : goal.returns-in-Some
returns-in-Some c = last_is c.args.orders.now c.in-Some.row.now c.in-Some.ensures.value
