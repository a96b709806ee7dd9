use Rattle.sqlite.specs.Held.{state}
use Rattle.office_store.proofs.PutSwap.{adds}
use Rattle.office_store.proofs.write_points.put_swap.Goals as goal

pub returns-clause-put : goal.returns-clause-put
returns-clause-put g c clean base kept point swaps below within =
    let old = state g.S.Store c.args.tx.now.conn.now in
    let new = state g.S.Store c.run.new.tx.conn.now in
    let ran = rw (c.params-to_sql.ensures) at (c.run.ensures.ran clean within.inside) in
    adds c.args.number point swaps old new base kept c.run.result c.ranges.number.fits below within ran
