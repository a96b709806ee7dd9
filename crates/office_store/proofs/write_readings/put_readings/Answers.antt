use Rattle.std.proofs.Common.{◌≡◌, ◌++◌, inl, inr, List, [], length, refl, sym, ap, subst, ◌∙◌, arith, append-nil, append_assoc}
use Rattle.std.specs.Slice.Iter.{rchunks_rest, rchunks_size}
use Rattle.sqlite.specs.Held.{state}
use Rattle.sqlite.specs.State.{HasCleanDisk}
use Rattle.sqlite.proofs.StateLemmas.{survives_then}
use Rattle.poll_book.specs.declared.rows.ReadingRow.{ReadingRow}
use Rattle.poll_book.specs.Tables.{Readings, with_rows}
use Rattle.poll_book.specs.Changes.{KeepWords, as_rows}
use Rattle.office_store.specs.Writing.{Within}
use Rattle.office_store.proofs.FreeKeys.{none_left}
use Rattle.office_store.proofs.NewRows.{keep_before, keep_behind, put_behind}
use Rattle.office_store.proofs.write_readings.put_readings.Goals as goal

pub loop-few-init : goal.loop-few-init
loop-few-init g c =
    let rest : rchunks_rest c.into_iter-few-iterator.result ≡ c.args.rows.now = ap rchunks_rest c.into_iter-few-iterator.ensures.into_iter_gives ∙ c.rchunks-few-items.ensures.rest in
    record {
      same_reference = refl;
      survives = record { clean = omega arith; shield = λ x. x; counts = omega arith; limit = refl; closes = λ clean now_open. inl now_open; crash = λ clean db may. inl may };
      kept = λ clean. record { was_open = λ now_open. now_open; committed = λ now_open. refl };
      inside = λ clean inside. inside;
      size = ap rchunks_size c.into_iter-few-iterator.ensures.into_iter_gives ∙ c.rchunks-few-items.ensures.size;
      done = [];
      split = sym (append-nil (rchunks_rest c.into_iter-few-iterator.result) ∙ rest);
      opened = λ clean inside. inl refl;
      put = λ clean base kept within words. within;
    }

pub loop-few-preserved : goal.loop-few-preserved
loop-few-preserved g c =
    let past = c.loop-few.invariant in
    let made = c.in_ok-put_few.ensures in
    let start = state g.S.Store c.args.tx.now.conn.now in
    let before = state g.S.Store c.loop-few.tx.conn.now in
    let after = state g.S.Store c.put_few.new.tx.conn.now in
    let few = c.in-Some.few.now in
    let rest = rchunks_rest c.next.new.self in
    let steps = c.in-Some.ensures.steps in
    let split : c.args.rows.now ≡ rest ++ (few ++ past.done) = past.split ∙ ap (λ (l : List ReadingRow). l ++ past.done) steps.1.0 ∙ append_assoc rest few past.done in
    record {
      same_reference = made.same_reference ∙ past.same_reference;
      survives = survives_then start before after _ _ _ (λ _ db h. h) (λ _ db h. h) past.survives made.survives;
      kept = λ clean.
          let a = past.kept (omega (arith, clean, made.survives.clean)) in
          let b = made.kept clean in
          record { was_open = λ now_open. a.was_open (b.was_open now_open); committed = λ now_open. b.committed now_open ∙ a.committed (b.was_open now_open) };
      inside = λ clean inside. made.inside clean (past.inside (omega (arith, clean, made.survives.clean)) inside);
      size = steps.0 ∙ past.size;
      done = few ++ past.done;
      split = split;
      opened = λ clean inside.
          let earlier : HasCleanDisk before = omega (arith, clean, made.survives.clean) in
          elim (made.opened clean (past.inside earlier inside)) [
            | inl none ↦ absurd (omega (arith, ap length none, steps.1.1, steps.1.2, past.size))
            | inr now_open ↦ inr ((past.kept earlier).was_open now_open)
          ];
      put = λ clean base kept within words.
          let it = past.put (omega (arith, clean, made.survives.clean)) base kept within words in
          let left = keep_behind kept.readings rest (few ++ past.done) (subst (λ (l : List ReadingRow). KeepWords kept.readings (as_rows l)) split words) in
          let put = made.put clean base (record kept { readings = with_rows (as_rows past.done) kept.readings }) it (keep_before kept.readings few past.done left) in
          subst (λ (l : Readings). Within after base (record kept { readings = l })) (sym (put_behind kept.readings few past.done)) put;
    }

pub returns-clause-put : goal.returns-clause-put
returns-clause-put g c clean base kept within words =
    let past = c.loop-few.invariant in
    let all : c.args.rows.now ≡ past.done = past.split ∙ ap (λ (l : List ReadingRow). l ++ past.done) (none_left _ c.in-None.ensures.steps.1.0) in
    subst (λ (l : List ReadingRow). Within (state g.S.Store c.loop-few.tx.conn.now) base (record kept { readings = with_rows (as_rows l) kept.readings })) (sym all) (past.put clean base kept within words)
