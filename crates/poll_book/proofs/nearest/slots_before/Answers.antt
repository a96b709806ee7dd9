use Rattle.poll_book.proofs.Slots.{before_here, before_gap}
use Rattle.poll_book.proofs.nearest.slots_before.Goals as goal

pub returns-in-Ok : goal.returns-in-Ok
returns-in-Ok c known = before_here known c.args.slot c.args.slots.now c.in-Ok.place c.in-Ok.ensures.found

pub returns-in-Err : goal.returns-in-Err
returns-in-Err c known = before_gap known c.args.slot c.args.slots.now c.in-Err.place c.in-Err.ensures.absent
