use Rattle.std.proofs.Common.{subst, arith, if◌then◌else◌}
use Rattle.sqlite.specs.Held.{state}
use Rattle.sqlite.specs.State.{HasCleanDisk}
use Rattle.poll_book.specs.Tables.{Tables, with_rows}
use Rattle.poll_book.specs.Changes.{as_rows}
use Rattle.office_store.specs.Writing.{Within}
use Rattle.office_store.proofs.write_readings.put_few.Goals as goal

pub returns-then-branch-clause-put : goal.returns-then-branch-clause-put
returns-then-branch-clause-put g c clean base kept within words =
    let with_them : Tables = record kept { readings = with_rows (as_rows c.args.rows.now) kept.readings } in
    subst (λ is_added. Within (state g.S.Store c.add_five.new.tx.conn.now) base (if is_added then with_them else kept)) c.if-branch.true (c.in_ok-add_five.ensures.put clean base kept within)

pub returns-clause-put : goal.returns-clause-put
returns-clause-put g c clean base kept within words =
    let with_them : Tables = record kept { readings = with_rows (as_rows c.args.rows.now) kept.readings } in
    let before : HasCleanDisk (state g.S.Store c.add_five.new.tx.conn.now) = omega (arith, clean, c.put_each.ensures.survives.clean) in
    let same = subst (λ is_added. Within (state g.S.Store c.add_five.new.tx.conn.now) base (if is_added then with_them else kept)) c.if-branch.false (c.in_ok-add_five.ensures.put before base kept within) in
    c.put_each.ensures.put clean base kept same words
