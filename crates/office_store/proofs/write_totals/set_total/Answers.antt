use Rattle.std.proofs.Common.{◌≡◌, ℕ, true, Option, Some, None, is_some, refl}
use Rattle.sqlite.specs.Held.{state}
use Rattle.poll_book.specs.Tables.{sum_at}
use Rattle.office_store.proofs.SetTotal.{sets}
use Rattle.office_store.proofs.write_totals.set_total.Goals as goal

some : (o : Option ℕ) → is_some o ≡ true → (n : ℕ) × (o ≡ Some n)
some (Some n) h = (n, refl)
some None h = absurd (cc)

pub returns-clause-put : goal.returns-clause-put
returns-clause-put g c clean base kept within there =
    let old = state g.S.Store c.args.tx.now.conn.now in
    let new = state g.S.Store c.run.new.tx.conn.now in
    let found = some (sum_at kept.totals c.args.point) there in
    let ran = rw (c.to_sql.ensures, c.to_sql-2.ensures, c.as_slice.ensures, c.to_be_bytes-bytes.ensures) at (c.run.ensures.ran clean within.inside) in
    sets c.args.point c.args.total old new base kept found.0 c.run.result c.ranges.point.fits c.ranges.total.fits within found.1 ran
