use Rattle.std.proofs.Common.{arith}
use Rattle.sqlite.specs.Held.{state}
use Rattle.sqlite.specs.State.{HasCleanDisk}
use Rattle.office_store.proofs.Tables.{makes_others}
use Rattle.office_store.proofs.making.make_others.Goals as goal

pub returns-clause-made : goal.returns-clause-made
returns-clause-made g c clean inside first =
    let a = state g.S.Store c.args.tx.now.conn.now in
    let b = state g.S.Store c.run.new.tx.conn.now in
    let d = state g.S.Store c.run-2.new.tx.conn.now in
    let e = state g.S.Store c.run-3.new.tx.conn.now in
    let clean_d : HasCleanDisk d = omega (arith, clean, c.run-3.ensures.survives.clean) in
    let clean_b : HasCleanDisk b = omega (arith, clean_d, c.run-2.ensures.survives.clean) in
    let one = c.in_ok-run.ensures.ran clean_b inside in
    let two = c.in_ok-run-2.ensures.ran clean_d one.1.mode in
    makes_others a b d e c.in_ok-run.field-0 c.in_ok-run-2.field-0 c.run-3.result first one.0 two.0 (c.run-3.ensures.ran clean two.1.mode)
