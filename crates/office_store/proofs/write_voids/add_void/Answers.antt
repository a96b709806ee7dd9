use Rattle.sqlite.specs.Held.{state}
use Rattle.office_store.proofs.PutVoid.{adds}
use Rattle.office_store.proofs.write_voids.add_void.Goals as goal

pub returns-clause-put : goal.returns-clause-put
returns-clause-put g c clean base kept within fresh =
    let old = state g.S.Store c.args.tx.now.conn.now in
    let new = state g.S.Store c.run.new.tx.conn.now in
    let ran = rw (c.params-to_sql.ensures, c.params-to_sql-2.ensures) at (c.run.ensures.ran clean within.inside) in
    adds c.args.point c.args.slot old new base kept c.run.result c.ranges.point.fits c.ranges.slot.fits within fresh ran
