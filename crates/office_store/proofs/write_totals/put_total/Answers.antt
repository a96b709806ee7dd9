use Rattle.sqlite.specs.Held.{state}
use Rattle.office_store.proofs.PutTotal.{adds}
use Rattle.office_store.proofs.write_totals.put_total.Goals as goal

pub returns-clause-put : goal.returns-clause-put
returns-clause-put g c clean base kept within none =
    let old = state g.S.Store c.args.tx.now.conn.now in
    let new = state g.S.Store c.run.new.tx.conn.now in
    let ran = rw (c.to_sql.ensures, c.to_sql-2.ensures, c.as_slice.ensures, c.to_be_bytes-bytes.ensures) at (c.run.ensures.ran clean within.inside) in
    adds c.args.point c.args.total old new base kept c.run.result c.ranges.point.fits c.ranges.total.fits within none ran
