use Rattle.std.proofs.Common.{arith}
use Rattle.sqlite.specs.Held.{state}
use Rattle.office_store.proofs.SettleOrder.{settles}
use Rattle.office_store.proofs.write_settings.settle.Goals as goal

pub returns-clause-put : goal.returns-clause-put
returns-clause-put g c clean base kept before within found =
    let old = state g.S.Store c.args.tx.now.conn.now in
    let new = state g.S.Store c.run.new.tx.conn.now in
    let ran = rw (c.params-to_sql.ensures, c.params-to_sql-2.ensures, c.params-to_sql-3.ensures, c.from.ensures, c.from-2.ensures, c.state_number.ensures, c.code_number.ensures) at (c.run.ensures.ran clean within.inside) in
    settles c.args.number c.args.standing before old new base kept c.run.result (omega (arith, c.code_number.ensures, c.code_number.type_inv)) within found ran
