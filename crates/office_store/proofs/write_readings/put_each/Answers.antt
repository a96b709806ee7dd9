use Rattle.std.proofs.Common.{◌≡◌, ℕ, suc, ◌-◌, List, [], ◌∷◌, drop, length, inl, refl, sym, ap, subst, ◌∙◌, arith, drop_of_length-le}
use Rattle.std.proofs.Math.Seq.{drop-cons}
use Rattle.sqlite.specs.Held.{state}
use Rattle.sqlite.specs.State.{HasCleanDisk}
use Rattle.sqlite.proofs.StateLemmas.{survives_then}
use Rattle.poll_book.specs.declared.rows.ReadingRow.{ReadingRow}
use Rattle.poll_book.specs.Tables.{with_rows}
use Rattle.poll_book.specs.Changes.{KeepWords, as_rows}
use Rattle.office_store.specs.Writing.{Within}
use Rattle.office_store.proofs.NewRows.{new_left, new_here}
use Rattle.office_store.proofs.write_readings.put_each.Goals as goal

pub loop-left-init : goal.loop-left-init
loop-left-init g c = record {
  same_reference = refl;
  survives = record { clean = omega arith; shield = λ x. x; counts = omega arith; limit = refl; closes = λ clean now_open. inl now_open; crash = λ clean db may. inl may };
  kept = λ clean. record { was_open = λ now_open. now_open; committed = λ now_open. refl };
  inside = λ clean inside. inside;
  opened = λ clean inside some. absurd (omega arith);
  in_range = omega arith;
  put = λ clean base kept within fresh.
      let rows = c.args.rows.now in
      let none : drop (length rows) rows ≡ [] = drop_of_length-le rows (omega arith) in
      subst (λ (l : List ReadingRow). Within (state g.S.Store c.args.tx.now.conn.now) base (record kept { readings = with_rows (as_rows l) kept.readings })) (sym none) within;
}

pub loop-left-preserved : goal.loop-left-preserved
loop-left-preserved g c =
    let past = c.loop-left.invariant in
    let made = c.in_ok-put_reading.ensures in
    let start = state g.S.Store c.args.tx.now.conn.now in
    let before = state g.S.Store c.loop-left.tx.conn.now in
    let after = state g.S.Store c.put_reading.new.tx.conn.now in
    let rows = c.args.rows.now in
    let i = c.loop-left.left - 1 in
    let row = c.index-rows-left.result in
    let next : suc i ≡ c.loop-left.left = omega (arith, c.loop-left-test.true) in
    let split : drop i rows ≡ row ∷ drop c.loop-left.left rows = drop-cons rows i row (omega (arith, past.in_range, c.loop-left-test.true)) ∙ ap (λ (x : ReadingRow). x ∷ drop (suc i) rows) (sym c.index-rows-left.is) ∙ ap (λ n. row ∷ drop n rows) next in
    record {
      same_reference = made.same_reference ∙ past.same_reference;
      survives = survives_then start before after _ _ _ (λ _ db h. h) (λ _ db h. h) past.survives made.survives;
      kept = λ clean.
          let a = past.kept (omega (arith, clean, made.survives.clean)) in
          let b = made.kept clean in
          record { was_open = λ now_open. a.was_open (b.was_open now_open); committed = λ now_open. b.committed now_open ∙ a.committed (b.was_open now_open) };
      inside = λ clean inside. made.inside clean (past.inside (omega (arith, clean, made.survives.clean)) inside);
      opened = λ clean inside some.
          let earlier : HasCleanDisk before = omega (arith, clean, made.survives.clean) in
          (past.kept earlier).was_open (made.opened clean (past.inside earlier inside));
      in_range = omega (arith, past.in_range);
      put = λ clean base kept within fresh.
          let it = past.put (omega (arith, clean, made.survives.clean)) base kept within fresh in
          let new = subst (λ (l : List ReadingRow). KeepWords kept.readings (as_rows l)) split (new_left kept.readings rows i fresh) in
          let put = made.put clean base (record kept { readings = with_rows (as_rows (drop c.loop-left.left rows)) kept.readings }) it (new_here kept.readings row (drop c.loop-left.left rows) new) in
          subst (λ (l : List ReadingRow). Within after base (record kept { readings = with_rows (as_rows l) kept.readings })) (sym split) put;
    }

pub returns-clause-put : goal.returns-clause-put
returns-clause-put g c clean base kept within fresh =
    let rows = c.args.rows.now in
    let done : c.loop-left.left ≡ 0 = omega (arith, c.loop-left-test.false) in
    subst (λ (n : ℕ). Within (state g.S.Store c.loop-left.tx.conn.now) base (record kept { readings = with_rows (as_rows (drop n rows)) kept.readings })) done
    (c.loop-left.invariant.put clean base kept within fresh)
