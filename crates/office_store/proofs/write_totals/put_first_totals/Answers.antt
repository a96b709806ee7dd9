use Rattle.std.proofs.Common.{◌≡◌, ℕ, suc, ◌-◌, List, [], ◌∷◌, drop, length, inl, refl, sym, ap, subst, ◌∙◌, arith, drop_of_length-le}
use Rattle.std.proofs.Math.Seq.{drop-cons}
use Rattle.sqlite.specs.Held.{state}
use Rattle.sqlite.proofs.StateLemmas.{survives_then}
use Rattle.poll_book.specs.declared.rows.PointRow.{PointRow}
use Rattle.poll_book.specs.Tables.{Sums, with_sums}
use Rattle.poll_book.specs.Totals.{totals_of}
use Rattle.office_store.specs.Writing.{AreFree, Within}
use Rattle.office_store.proofs.FirstTotals.{free_left, free_here, put_more}
use Rattle.office_store.proofs.write_totals.put_first_totals.Goals as goal

pub loop-left-init : goal.loop-left-init
loop-left-init g c = record {
  same_reference = refl;
  survives = record { clean = omega arith; shield = λ x. x; counts = omega arith; limit = refl; closes = λ clean now_open. inl now_open; crash = λ clean db may. inl may };
  kept = λ clean. record { was_open = λ now_open. now_open; committed = λ now_open. refl };
  inside = λ clean inside. inside;
  in_range = omega arith;
  put = λ clean base kept within fresh.
      let points = c.args.points.now in
      let none : drop (length points) points ≡ [] = drop_of_length-le points (omega arith) in
      subst (λ (l : List PointRow). Within (state g.S.Store c.args.tx.now.conn.now) base (record kept { totals = with_sums (totals_of l []) kept.totals })) (sym none) within;
}

pub loop-left-preserved : goal.loop-left-preserved
loop-left-preserved g c =
    let past = c.loop-left.invariant in
    let made = c.in_ok-put_first_total.ensures in
    let start = state g.S.Store c.args.tx.now.conn.now in
    let before = state g.S.Store c.loop-left.tx.conn.now in
    let after = state g.S.Store c.put_first_total.new.tx.conn.now in
    let points = c.args.points.now in
    let i = c.loop-left.left - 1 in
    let row = c.index-points-left.result in
    let next : suc i ≡ c.loop-left.left = omega (arith, c.loop-left-test.true) in
    let split : drop i points ≡ row ∷ drop c.loop-left.left points = drop-cons points i row (omega (arith, past.in_range, c.loop-left-test.true)) ∙ ap (λ (x : PointRow). x ∷ drop (suc i) points) (sym c.index-points-left.is) ∙ ap (λ n. row ∷ drop n points) next in
    record {
      same_reference = made.same_reference ∙ past.same_reference;
      survives = survives_then start before after _ _ _ (λ _ db h. h) (λ _ db h. h) past.survives made.survives;
      kept = λ clean.
          let a = past.kept (omega (arith, clean, made.survives.clean)) in
          let b = made.kept clean in
          record { was_open = λ now_open. a.was_open (b.was_open now_open); committed = λ now_open. b.committed now_open ∙ a.committed (b.was_open now_open) };
      inside = λ clean inside. made.inside clean (past.inside (omega (arith, clean, made.survives.clean)) inside);
      in_range = omega (arith, past.in_range);
      put = λ clean base kept within fresh.
          let it = past.put (omega (arith, clean, made.survives.clean)) base kept within fresh in
          let new = subst (λ (l : List PointRow). AreFree kept.totals (totals_of l [])) split (free_left i points kept.totals fresh) in
          let put = made.put clean base (record kept { totals = with_sums (totals_of (drop c.loop-left.left points) []) kept.totals }) it (free_here row (drop c.loop-left.left points) kept.totals new) in
          let all = put_more row (drop c.loop-left.left points) kept.totals ∙ ap (λ l. with_sums (totals_of l []) kept.totals) (sym split) in
          subst (λ (l : Sums). Within after base (record kept { totals = l })) all put;
    }

pub returns-clause-put : goal.returns-clause-put
returns-clause-put g c clean base kept within fresh =
    let points = c.args.points.now in
    let done : c.loop-left.left ≡ 0 = omega (arith, c.loop-left-test.false) in
    subst (λ (n : ℕ). Within (state g.S.Store c.loop-left.tx.conn.now) base (record kept { totals = with_sums (totals_of (drop n points) []) kept.totals })) done
    (c.loop-left.invariant.put clean base kept within fresh)
