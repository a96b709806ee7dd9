use Rattle.std.proofs.lemmas.List.{take_all}
use Rattle.std.proofs.Common.{◌≡◌, ◌<◌, ◌++◌, List, inl, length, take, append-nil, refl, sym, subst, ◌∙◌, arith}
use Rattle.sqlite.specs.Held.{state}
use Rattle.sqlite.specs.State.{HasCleanDisk}
use Rattle.sqlite.proofs.StateLemmas.{survives_then}
use Rattle.poll_book.specs.declared.rows.PointRow.{PointRow}
use Rattle.office_store.specs.Writing.{Within}
use Rattle.office_store.proofs.NewPoints.{all_below, one_more}
use Rattle.office_store.proofs.write_points.put_points.Goals as goal

pub loop-row-init : goal.loop-row-init
loop-row-init g c = record {
  same_reference = refl;
  survives = record { clean = omega arith; shield = λ x. x; counts = omega arith; limit = refl; closes = λ clean now_open. inl now_open; crash = λ clean db may. inl may };
  kept = λ clean. record { was_open = λ now_open. now_open; committed = λ now_open. refl };
  inside = λ clean inside. inside;
  opened = λ clean inside some. absurd (omega arith);
  put = λ clean base kept within numbered. subst (λ (points : List PointRow). Within (state g.S.Store c.args.tx.now.conn.now) base (record kept { points = points })) (sym (append-nil kept.points)) within;
}

pub loop-row-preserved : goal.loop-row-preserved
loop-row-preserved g c =
    let past = c.loop-row.invariant in
    let made = c.in_ok-put_point.ensures in
    let start = state g.S.Store c.args.tx.now.conn.now in
    let before = state g.S.Store c.loop-row.tx.conn.now in
    let after = state g.S.Store c.put_point.new.tx.conn.now in
    let points = c.args.points.now in
    let i = c.loop-row.row-index in
    let row = c.row-item.result in
    let in_range : i < length points = omega (arith, c.loop-row-test.true) in
    record {
      same_reference = made.same_reference ∙ past.same_reference;
      survives = survives_then start before after _ _ _ (λ _ db h. h) (λ _ db h. h) past.survives made.survives;
      kept = λ clean.
          let a = past.kept (omega (arith, clean, made.survives.clean)) in
          let b = made.kept clean in
          record { was_open = λ now_open. a.was_open (b.was_open now_open); committed = λ now_open. b.committed now_open ∙ a.committed (b.was_open now_open) };
      inside = λ clean inside. made.inside clean (past.inside (omega (arith, clean, made.survives.clean)) inside);
      opened = λ clean inside some.
          let earlier : HasCleanDisk before = omega (arith, clean, made.survives.clean) in
          (past.kept earlier).was_open (made.opened clean (past.inside earlier inside));
      put = λ clean base kept within numbered.
          let it = past.put (omega (arith, clean, made.survives.clean)) base kept within numbered in
          let put = made.put clean base (record kept { points = kept.points ++ take i points }) it (all_below kept.points points i row in_range c.row-item.is numbered) in
          subst (λ (l : List PointRow). Within after base (record kept { points = l })) (one_more kept.points points i row in_range c.row-item.is) put;
    }

pub returns-clause-put : goal.returns-clause-put
returns-clause-put g c clean base kept within numbered =
    let points = c.args.points.now in
    let all : take c.loop-row.row-index points ≡ points = take_all c.loop-row.row-index points (omega (arith, c.loop-row-test.false)) in
    subst (λ (l : List PointRow). Within (state g.S.Store c.loop-row.tx.conn.now) base (record kept { points = kept.points ++ l })) all (c.loop-row.invariant.put clean base kept within numbered)
