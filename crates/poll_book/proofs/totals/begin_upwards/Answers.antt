use Rattle.std.proofs.Common.{◌≡◌, suc, ◌+◌, take, [], ◌∷◌, ◌++◌, sym, ap, ◌∙◌, arith}
use Rattle.std.proofs.Math.Seq.{take-suc}
use Rattle.poll_book.specs.declared.rows.PointRow.{PointRow}
use Rattle.poll_book.specs.Tables.{with_sums}
use Rattle.poll_book.specs.Totals.{totals_of}
use Rattle.poll_book.specs.Changes.{as_sums}
use Rattle.poll_book.proofs.Summed.{begun_last}
use Rattle.poll_book.proofs.totals.begin_upwards.Goals as goal

pub loop-point-preserved : goal.loop-point-preserved
loop-point-preserved c =
    let past = c.loop-point.invariant in
    let made = c.begin_total.ensures in
    let points = c.args.points.now in
    let i = c.loop-point.point-index in
    let row = c.point-item.result in
    let old = as_sums c.args.totals.now.items in
    let next : suc i ≡ i + 1 = omega arith in
    let longer : take i points ++ row ∷ [] ≡ take (i + 1) points =
    ap (λ (x : PointRow). take i points ++ x ∷ []) c.point-item.is ∙ sym (take-suc points i row c.loop-point-test.true) ∙ ap (λ n. take n points) next in
    record {
      rising = made.rising;
      room = λ more enough. let was = past.room more enough in omega (arith, was, made.longer, made.capacity);
      put = made.put ∙ ap (with_sums (totals_of (row ∷ []) [])) past.put ∙ begun_last row (take i points) old ∙ ap (λ l. with_sums (totals_of l []) old) longer;
    }

pub returns-clause-room : goal.returns-clause-room
returns-clause-room c more enough = let was = c.loop-point.invariant.room more enough in omega (arith, was, c.loop-point-test.false, c.loop-point.auto.point-index-end)
