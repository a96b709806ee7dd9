use Rattle.std.proofs.Common.{◌≡◌, suc, ◌-◌, [], ◌∷◌, drop, sym, ap, ◌∙◌, arith}
use Rattle.std.proofs.Math.Seq.{drop-cons}
use Rattle.poll_book.specs.declared.rows.PointRow.{PointRow}
use Rattle.poll_book.specs.Tables.{with_sums}
use Rattle.poll_book.specs.Totals.{totals_of}
use Rattle.poll_book.specs.Changes.{as_sums}
use Rattle.poll_book.proofs.Summed.{begun_more}
use Rattle.poll_book.proofs.totals.begin_downwards.Goals as goal

pub loop-left-preserved : goal.loop-left-preserved
loop-left-preserved c =
    let past = c.loop-left.invariant in
    let made = c.begin_total.ensures in
    let points = c.args.points.now in
    let i = c.loop-left.left - 1 in
    let row = c.index-points-left.result in
    let old = as_sums c.args.totals.now.items in
    let next : suc i ≡ c.loop-left.left = omega (arith, c.loop-left-test.true) in
    let split : drop i points ≡ row ∷ drop c.loop-left.left points =
    drop-cons points i row (omega (arith, past.in_range, c.loop-left-test.true)) ∙ ap (λ (x : PointRow). x ∷ drop (suc i) points) (sym c.index-points-left.is) ∙ ap (λ n. row ∷ drop n points) next in
    record {
      in_range = omega (arith, past.in_range);
      rising = made.rising;
      room = λ more enough. let was = past.room more enough in omega (arith, was, made.longer, made.capacity, c.loop-left-test.true);
      put = made.put ∙ ap (with_sums (totals_of (row ∷ []) [])) past.put ∙ begun_more row (drop c.loop-left.left points) old ∙ ap (λ l. with_sums (totals_of l []) old) (sym split);
    }

pub returns-clause-room : goal.returns-clause-room
returns-clause-room c more enough = let was = c.loop-left.invariant.room more enough in omega (arith, was, c.loop-left-test.false)
