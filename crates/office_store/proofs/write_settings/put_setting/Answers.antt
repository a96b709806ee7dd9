use Rattle.std.proofs.Common.{arith}
use Rattle.sqlite.specs.Held.{state}
use Rattle.office_store.proofs.PutSetting.{adds}
use Rattle.office_store.proofs.write_settings.put_setting.Goals as goal

pub returns-clause-put : goal.returns-clause-put
returns-clause-put g c clean base kept within next =
    let old = state g.S.Store c.args.tx.now.conn.now in
    let new = state g.S.Store c.run.new.tx.conn.now in
    let ran = rw (c.params-to_sql.ensures, c.params-to_sql-2.ensures, c.params-to_sql-3.ensures, c.params-to_sql-4.ensures, c.params-to_sql-5.ensures, c.put_words-len.ensures.written, c.as_slice.ensures.value, c.from.ensures, c.from-2.ensures, c.state_number.ensures, c.code_number.ensures) at (c.run.ensures.ran clean within.inside) in
    adds c.args.number c.args.point c.args.words.now c.args.standing old new base kept c.run.result c.ranges.number.fits c.ranges.point.fits (omega (arith, c.code_number.ensures, c.code_number.type_inv)) c.as_slice.ensures.not_empty c.as_slice.ensures.short within next ran
