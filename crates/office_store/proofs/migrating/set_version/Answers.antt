use Rattle.sqlite.specs.Held.{state}
use Rattle.office_store.proofs.Moving.{moves}
use Rattle.office_store.proofs.migrating.set_version.Goals as goal

pub returns-clause-moved : goal.returns-clause-moved
returns-clause-moved g c clean inside kept was = moves (state g.S.Store c.args.tx.now.conn.now) (state g.S.Store c.run.new.tx.conn.now) kept c.run.result was (c.run.ensures.ran clean inside)
