use Rattle.sqlite.specs.Held.{state}
use Rattle.office_store.proofs.PutNumber.{changes}
use Rattle.office_store.proofs.write_numbers.put_connection.Goals as goal

pub returns-clause-put : goal.returns-clause-put
returns-clause-put g c clean base kept within =
    changes c.args.number (state g.S.Store c.args.tx.now.conn.now) (state g.S.Store c.run.new.tx.conn.now) base kept c.run.result within (rw c.params-to_sql.ensures at (c.run.ensures.ran clean within.inside))
