use Rattle.sqlite.specs.Held.{state}
use Rattle.office_store.proofs.PutReading.{adds_if}
use Rattle.office_store.proofs.write_readings.add_reading.Goals as goal

pub returns-clause-put : goal.returns-clause-put
returns-clause-put g c clean base kept within =
    let old = state g.S.Store c.args.tx.now.conn.now in
    let new = state g.S.Store c.add.new.tx.conn.now in
    let ran = rw (c.params-to_sql.ensures, c.params-to_sql-2.ensures, c.params-to_sql-3.ensures, c.params-to_sql-4.ensures, c.put_words-len.ensures.written, c.as_slice.ensures.value) at (c.add.ensures.ran clean within.inside) in
    adds_if c.args.point c.args.slot c.args.words.now c.args.counted old new base kept c.add.result c.ranges.point.fits c.ranges.slot.fits c.as_slice.ensures.not_empty c.as_slice.ensures.short within ran
