use Rattle.std.proofs.Common.{◌≡◌, true, ap, subst}
use Rattle.sqlite.specs.Held.{state}
use Rattle.poll_book.specs.Tables.{Sums}
use Rattle.poll_book.specs.Totals.{is_counter}
use Rattle.office_store.specs.Writing.{Within}
use Rattle.office_store.proofs.FirstTotals.{free_counter, put_counter}
use Rattle.office_store.proofs.write_totals.put_first_total.Goals as goal

pub returns-in_ok-put_total-clause-put : goal.returns-in_ok-put_total-clause-put
returns-in_ok-put_total-clause-put g c clean base kept within free =
    let row = c.args.row.now in
    let counts : is_counter row.point.role ≡ true = ap is_counter c.in-Counter.is in
    subst (λ (l : Sums). Within (state g.S.Store c.put_total.new.tx.conn.now) base (record kept { totals = l })) (put_counter row kept.totals counts)
    (c.in_ok-put_total.ensures.put clean base kept within (free_counter row kept.totals counts free))
