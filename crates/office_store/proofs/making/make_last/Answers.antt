use Rattle.std.proofs.Common.{arith}
use Rattle.sqlite.specs.Held.{state}
use Rattle.sqlite.specs.State.{HasCleanDisk}
use Rattle.office_store.proofs.Tables.{makes_last}
use Rattle.office_store.proofs.making.make_last.Goals as goal

pub returns-clause-added : goal.returns-clause-added
returns-clause-added g c clean inside six =
    let a = state g.S.Store c.args.tx.now.conn.now in
    let b = state g.S.Store c.run.new.tx.conn.now in
    let d = state g.S.Store c.run-2.new.tx.conn.now in
    let clean_b : HasCleanDisk b = omega (arith, clean, c.run-2.ensures.survives.clean) in
    let one = c.in_ok-run.ensures.ran clean_b inside in
    makes_last a b d c.in_ok-run.field-0 c.run-2.result six one.0 (c.run-2.ensures.ran clean one.1.mode)
