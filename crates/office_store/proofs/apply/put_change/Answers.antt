use Rattle.std.proofs.Common.{◌++◌, [], sym, subst, arith}
use Rattle.sqlite.specs.Held.{state}
use Rattle.sqlite.specs.State.{HasCleanDisk}
use Rattle.poll_book.specs.Totals.{totals_of}
use Rattle.poll_book.specs.Changes.{KeepWords, AreNumbered, AreThere, as_rows, as_sums}
use Rattle.office_store.specs.Writing.{AreFree}
use Rattle.office_store.proofs.FirstTotals.{all_free}
use Rattle.office_store.proofs.apply.put_change.Goals as goal

pub returns-clause-put : goal.returns-clause-put
returns-clause-put g c clean base kept within new =
    let asked : HasCleanDisk (state g.S.Store c.put_asked.new.tx.conn.now) = omega (arith, clean, c.put_connections.ensures.survives.clean) in
    let ordered : HasCleanDisk (state g.S.Store c.put_order.new.tx.conn.now) = omega (arith, asked, c.put_asked.ensures.survives.clean) in
    let voided : HasCleanDisk (state g.S.Store c.put_void.new.tx.conn.now) = omega (arith, ordered, c.put_order.ensures.survives.clean) in
    let summed : HasCleanDisk (state g.S.Store c.put_totals.new.tx.conn.now) = omega (arith, voided, c.put_void.ensures.survives.clean) in
    let read : HasCleanDisk (state g.S.Store c.put_readings.new.tx.conn.now) = omega (arith, summed, c.put_totals.ensures.survives.clean) in
    let pointed : HasCleanDisk (state g.S.Store c.put_points.new.tx.conn.now) = omega (arith, read, c.put_readings.ensures.survives.clean) in
    let points = c.as_slice.ensures in
    let readings = c.as_slice-2.ensures in
    let again = c.as_slice-3.ensures in
    let totals = c.as_slice-4.ensures in
    let one = rw points at (c.in_ok-put_points.ensures.put pointed base kept within (subst (λ ps. AreNumbered 0 (kept.points ++ ps)) (sym points) new.points)) in
    let two = rw readings at (c.in_ok-put_readings.ensures.put read base _ one (subst (λ rs. KeepWords kept.readings (as_rows rs)) (sym readings) new.readings)) in
    let free = all_free kept.points c.args.change.now.points kept.totals new.points new.totals in
    let three = rw (again, totals) at (c.in_ok-put_totals.ensures.put summed base _ two (subst (λ ps. AreFree kept.totals (totals_of ps [])) (sym again) free) (subst (λ rs. AreThere kept.totals (as_sums rs)) (sym totals) new.sums)) in
    let four = c.in_ok-put_void.ensures.put voided base _ three new.void in
    let five = c.in_ok-put_order.ensures.put ordered base _ four new.setting in
    let six = c.in_ok-put_asked.ensures.put asked base _ five new.request in
    c.put_connections.ensures.put clean base _ six
