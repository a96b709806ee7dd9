use Rattle.sqlite.specs.Held.{state}
use Rattle.poll_book.specs.Requests.{as_request}
use Rattle.office_store.proofs.PutRequest.{adds}
use Rattle.office_store.proofs.write_requests.put_coded.Goals as goal

pub returns-clause-put : goal.returns-clause-put
returns-clause-put g c clean base kept within none =
    let old = state g.S.Store c.args.tx.now.conn.now in
    let new = state g.S.Store c.run.new.tx.conn.now in
    let told = c.args.outcome in
    let ran = rw (c.as_bytes.ensures.value, c.as_bytes-2.ensures.value, c.to_sql.ensures, c.to_sql-2.ensures, c.to_sql-3.ensures, c.to_sql-4.ensures, c.to_sql-5.ensures, c.to_sql-6.ensures) at (c.run.ensures.ran clean within.inside) in
    adds c.args.kind c.args.body.now told.answer told.a told.b told.c (as_request c.args.row.now) old new base kept c.run.result (record { caller = c.as_bytes.ensures.caller; key = c.as_bytes-2.ensures.key; body = c.requires.body; outcome = c.requires.outcome }) within none ran
