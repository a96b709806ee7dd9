use Rattle.std.proofs.Common.{arith}
use Rattle.sqlite.specs.Held.{state}
use Rattle.sqlite.specs.State.{HasCleanDisk}
use Rattle.office_store.proofs.Moving.{blank_of}
use Rattle.office_store.proofs.making.make_all.Goals as goal

pub returns-clause-made : goal.returns-clause-made
returns-clause-made g c clean inside none =
    let b = state g.S.Store c.make_first.new.tx.conn.now in
    let d = state g.S.Store c.make_others.new.tx.conn.now in
    let e = state g.S.Store c.make_last.new.tx.conn.now in
    let clean_e : HasCleanDisk e = omega (arith, clean, c.put_numbers.ensures.survives.clean) in
    let clean_d : HasCleanDisk d = omega (arith, clean_e, c.make_last.ensures.survives.clean) in
    let clean_b : HasCleanDisk b = omega (arith, clean_d, c.make_others.ensures.survives.clean) in
    let one = c.in_ok-make_first.ensures in
    let two = c.in_ok-make_others.ensures in
    let open_b = (one.open clean_b inside).1 in
    let three = c.in_ok-make_last.ensures in
    let open_d = (two.open clean_d open_b).1 in
    let open_e = (three.open clean_e open_d).1 in
    let six = two.made clean_d open_b (one.made clean_b inside none) in
    c.put_numbers.ensures.made clean open_e (blank_of d.now e.now six (three.added clean_e open_d six.schema))

pub returns-clause-office : goal.returns-clause-office
returns-clause-office g c clean inside none =
    let b = state g.S.Store c.make_first.new.tx.conn.now in
    let d = state g.S.Store c.make_others.new.tx.conn.now in
    let e = state g.S.Store c.make_last.new.tx.conn.now in
    let clean_e : HasCleanDisk e = omega (arith, clean, c.put_numbers.ensures.survives.clean) in
    let clean_d : HasCleanDisk d = omega (arith, clean_e, c.make_last.ensures.survives.clean) in
    let clean_b : HasCleanDisk b = omega (arith, clean_d, c.make_others.ensures.survives.clean) in
    let one = c.in_ok-make_first.ensures in
    let two = c.in_ok-make_others.ensures in
    let open_b = (one.open clean_b inside).1 in
    let three = c.in_ok-make_last.ensures in
    let open_d = (two.open clean_d open_b).1 in
    let open_e = (three.open clean_e open_d).1 in
    let six = two.made clean_d open_b (one.made clean_b inside none) in
    c.put_numbers.ensures.office clean open_e (blank_of d.now e.now six (three.added clean_e open_d six.schema))
