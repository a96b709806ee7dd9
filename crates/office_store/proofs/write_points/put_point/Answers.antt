use Rattle.std.proofs.Common.{◌≡◌, ◌++◌, ◌∷◌, [], ap, arith, false, refl, subst}
use Rattle.sqlite.specs.Held.{state}
use Rattle.sqlite.specs.State.{HasCleanDisk}
use Rattle.sunspec.specs.declared.word_order.WordOrder.{WordOrder}
use Rattle.sunspec.specs.declared.word_order.WordOrder.TheVariants.{Big, Swapped}
use Rattle.poll_book.specs.declared.rows.PointRow.{PointRow}
use Rattle.office_store.specs.Swaps.{comes_swapped}
use Rattle.office_store.specs.Writing.{Within}
use Rattle.office_store.proofs.PlainPoints.{plain_itself}
use Rattle.office_store.proofs.write_points.put_point.Goals as goal

pub returns-in_ok-put_swap-clause-put : goal.returns-in_ok-put_swap-clause-put
returns-in_ok-put_swap-clause-put g c clean base kept within below =
    let before : HasCleanDisk (state g.S.Store c.put_plain.new.tx.conn.now) = omega (arith, clean, c.in_ok-put_swap.ensures.survives.clean) in
    let plain = c.in_ok-put_plain.ensures.put before base kept within below in
    c.in_ok-put_swap.ensures.put clean base kept c.args.point.now (ap comes_swapped c.in-Swapped.is) below plain

usual : (o : WordOrder) → (o ≡ Swapped → ⊥) → comes_swapped o ≡ false
usual Big other = refl
usual Swapped other = absurd (other refl)

pub returns-in_default-clause-put : goal.returns-in_default-clause-put
returns-in_default-clause-put g c clean base kept within below =
    let known : PointRow = record { number = c.args.number; point = c.args.point.now } in
    let same = plain_itself known (usual c.args.point.now.order c.in_default.not-Swapped) in
    subst (λ (p : PointRow). Within (state g.S.Store c.put_plain.new.tx.conn.now) base (record kept { points = kept.points ++ p ∷ [] })) same (c.in_ok-put_plain.ensures.put clean base kept within below)
