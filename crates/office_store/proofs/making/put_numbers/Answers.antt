use Rattle.sqlite.specs.Held.{state}
use Rattle.office_store.proofs.FirstRows.{makes_office, puts_numbers}
use Rattle.office_store.proofs.making.put_numbers.Goals as goal

pub returns-clause-made : goal.returns-clause-made
returns-clause-made g c clean inside blank = puts_numbers (state g.S.Store c.args.tx.now.conn.now) (state g.S.Store c.run.new.tx.conn.now) c.run.result blank (c.run.ensures.ran clean inside)

pub returns-clause-office : goal.returns-clause-office
returns-clause-office g c clean inside blank = makes_office (state g.S.Store c.args.tx.now.conn.now) (state g.S.Store c.run.new.tx.conn.now) c.run.result blank (c.run.ensures.ran clean inside)
