use Rattle.sqlite.specs.Held.{state}
use Rattle.office_store.proofs.MarkReading.{marks_if}
use Rattle.office_store.proofs.write_readings.set_mark.Goals as goal

pub returns-clause-put : goal.returns-clause-put
returns-clause-put g c clean base kept within words has =
    let old = state g.S.Store c.args.tx.now.conn.now in
    let new = state g.S.Store c.run.new.tx.conn.now in
    let ran = rw (c.params-to_sql.ensures, c.params-to_sql-2.ensures, c.params-to_sql-3.ensures) at (c.run.ensures.ran clean within.inside) in
    marks_if c.args.point c.args.slot c.args.counted old new base kept words c.run.result within has ran
