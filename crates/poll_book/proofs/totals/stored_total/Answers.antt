use Rattle.std.proofs.Common.{sym, ap}
use Rattle.std.specs.Prelude.{unwrap_or}
use Rattle.poll_book.proofs.Sums.{find_here, find_none}
use Rattle.poll_book.proofs.totals.stored_total.Goals as goal

pub returns-in-Ok : goal.returns-in-Ok
returns-in-Ok c = sym (ap (λ o. unwrap_or o 0) (find_here c.args.point c.args.totals.now c.in-Ok.place (record { point = 0; total = 0 }) c.in-Ok.ensures.found))

pub returns-in-Err : goal.returns-in-Err
returns-in-Err c = sym (ap (λ o. unwrap_or o 0) (find_none c.args.point c.args.totals.now c.in-Err.field-0 c.in-Err.ensures.absent))
