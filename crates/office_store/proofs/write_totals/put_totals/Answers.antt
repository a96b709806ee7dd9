use Rattle.std.proofs.Common.{[], arith}
use Rattle.sqlite.specs.Held.{state}
use Rattle.sqlite.specs.State.{HasCleanDisk}
use Rattle.poll_book.specs.Totals.{totals_of}
use Rattle.poll_book.specs.Changes.{as_sums}
use Rattle.office_store.proofs.FirstTotals.{there_after}
use Rattle.office_store.proofs.write_totals.put_totals.Goals as goal

pub returns-clause-put : goal.returns-clause-put
returns-clause-put g c clean base kept within free there =
    let first : HasCleanDisk (state g.S.Store c.put_first_totals.new.tx.conn.now) = omega (arith, clean, c.set_totals.ensures.survives.clean) in
    let put = c.in_ok-put_first_totals.ensures.put first base kept within free in
    c.set_totals.ensures.put clean base _ put (there_after (totals_of c.args.points.now []) (as_sums c.args.rows.now) kept.totals there)
