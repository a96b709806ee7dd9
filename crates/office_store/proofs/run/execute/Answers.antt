use Rattle.sqlite.specs.Held.{state}
use Rattle.office_store.proofs.Unchanged.{unless_taken}
use Rattle.office_store.proofs.run.execute.Goals as goal

pub returns-clause-refused : goal.returns-clause-refused
returns-clause-refused g c clean inside =
    unless_taken c.args.sql.now _ (state g.S.Store c.args.tx.now.conn.now) (state g.S.Store c.execute.new.self.conn.now) c.execute.result (c.execute.ensures.runs clean inside)
