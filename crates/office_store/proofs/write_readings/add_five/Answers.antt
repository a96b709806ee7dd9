use Rattle.sqlite.specs.Held.{state}
use Rattle.office_store.proofs.PutFive.{adds_if, all_read, five_are, params_are}
use Rattle.office_store.proofs.write_readings.add_five.Goals as goal

pub returns-clause-put : goal.returns-clause-put
returns-clause-put g c clean base kept within =
    let old = state g.S.Store c.args.tx.now.conn.now in
    let new = state g.S.Store c.add.new.tx.conn.now in
    let first = c.a-item.result in
    let second = c.b-item.result in
    let third = c.c-item.result in
    let fourth = c.d-item.result in
    let fifth = c.e-item.result in
    let five = five_are c.args.rows.now first second third fourth fifth c.in-len5.len_at_least c.in-len5.len_below c.a-item.is c.b-item.is c.c-item.is c.d-item.is c.e-item.is in
    let params = params_are first second third fourth fifth c.values_of-5.result c.values_of-4.result c.values_of-3.result c.values_of-2.result c.values_of.result
    c.values_of-5.ensures c.values_of-4.ensures c.values_of-3.ensures c.values_of-2.ensures c.values_of.ensures c.as_flattened.result.now c.as_flattened.ensures.value in
    let back = all_read first second third fourth fifth c.values_of-5.result c.values_of-4.result c.values_of-3.result c.values_of-2.result c.values_of.result
    c.values_of-5.ensures c.values_of-4.ensures c.values_of-3.ensures c.values_of-2.ensures c.values_of.ensures in
    rw five (adds_if first second third fourth fifth old new base kept c.add.result back within (rw params at (c.add.ensures.ran clean within.inside)))
