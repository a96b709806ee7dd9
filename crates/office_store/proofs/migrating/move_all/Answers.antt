use Rattle.std.proofs.Common.{arith}
use Rattle.sqlite.specs.Held.{state}
use Rattle.sqlite.specs.State.{HasCleanDisk}
use Rattle.office_store.proofs.Moving.{between}
use Rattle.office_store.proofs.migrating.move_all.Goals as goal

pub returns-clause-moved : goal.returns-clause-moved
returns-clause-moved g c clean inside kept six stood =
    let a = state g.S.Store c.args.tx.now.conn.now in
    let b = state g.S.Store c.make_last.new.tx.conn.now in
    let clean_b : HasCleanDisk b = omega (arith, clean, c.set_version.ensures.survives.clean) in
    let one = c.in_ok-make_last.ensures in
    c.set_version.ensures.moved clean (one.open clean_b inside).1 kept (between a.now b.now kept stood (one.added clean_b inside six))
