use Rattle.std.proofs.Common.{subst, arith, if◌then◌else◌}
use Rattle.sqlite.specs.Held.{state}
use Rattle.sqlite.specs.State.{HasCleanDisk}
use Rattle.poll_book.specs.Tables.{Tables, with_row}
use Rattle.office_store.specs.Writing.{Within}
use Rattle.office_store.proofs.write_readings.put_reading.Goals as goal

pub returns-then-branch-clause-put : goal.returns-then-branch-clause-put
returns-then-branch-clause-put g c clean base kept within has =
    let with_it : Tables = record kept { readings = with_row (c.args.point, c.args.slot) (record { words = c.args.words.now; counted = c.args.counted }) kept.readings } in
    subst (λ is_added. Within (state g.S.Store c.add_reading.new.tx.conn.now) base (if is_added then with_it else kept)) c.if-branch.true (c.in_ok-add_reading.ensures.put clean base kept within)

pub returns-clause-put : goal.returns-clause-put
returns-clause-put g c clean base kept within has =
    let with_it : Tables = record kept { readings = with_row (c.args.point, c.args.slot) (record { words = c.args.words.now; counted = c.args.counted }) kept.readings } in
    let before : HasCleanDisk (state g.S.Store c.add_reading.new.tx.conn.now) = omega (arith, clean, c.mark_reading.ensures.survives.clean) in
    let same = subst (λ is_added. Within (state g.S.Store c.add_reading.new.tx.conn.now) base (if is_added then with_it else kept)) c.if-branch.false (c.in_ok-add_reading.ensures.put before base kept within) in
    c.mark_reading.ensures.put clean base kept same c.args.words.now has
