use Rattle.std.proofs.Common.{◌<◌, ◌++◌, ◌∷◌, [], length, take, sym, ap, subst, ◌∙◌, arith, List}
use Rattle.std.specs.Prelude.{All, Contains, map}
use Rattle.std.proofs.lemmas.List.{take_more}
use Rattle.std.proofs.lemmas.List.Elements.{All-push, All-weaker}
use Rattle.poll_book.specs.declared.rows.ReadingRow.{ReadingRow}
use Rattle.poll_book.specs.Histories.{point_of, HaveRoom}
use Rattle.poll_book.proofs.histories.staged.Goals as goal

pub make_room-requires-clause-made : goal.make_room-requires-clause-made
make_room-requires-clause-made c =
    subst (λ (r : ReadingRow). Contains (map point_of c.loop-row.histories.items) r.point) (sym c.row-item.is)
    (c.loop-row.invariant.made c.loop-row.row-index c.row-item.result (omega (arith, c.loop-row-test.true)))

pub returns-in_err-make_room-clause-made : goal.returns-in_err-make_room-clause-made
returns-in_err-make_room-clause-made c k d lt = c.make_room.ensures.kept _ (c.loop-row.invariant.made k d lt)

pub returns-in_err-copy_of-clause-made : goal.returns-in_err-copy_of-clause-made
returns-in_err-copy_of-clause-made c k d lt = c.make_room.ensures.kept _ (c.loop-row.invariant.made k d lt)

pub returns-in_err-push-clause-made : goal.returns-in_err-push-clause-made
returns-in_err-push-clause-made c k d lt = c.make_room.ensures.kept _ (c.loop-row.invariant.made k d lt)

pub loop-row-preserved : goal.loop-row-preserved
loop-row-preserved c =
    let inv = c.loop-row.invariant in
    let added = c.args.added.now in
    let i = c.loop-row.row-index in
    let rows = c.loop-row.rows.items in
    let row = c.row-item.result in
    let copy = c.in_ok-copy_of.field-0 in
    let bound = c.max-bound.result in
    let pushed = c.in_ok-push.ensures.items in
    let lt : i < length added = omega (arith, c.loop-row-test.true) in
    let above : row.point < bound = omega (arith, c.max-bound.ensures, c.from.ensures) in
    record {
      ordered = c.make_room.ensures.ordered;
      same = c.make_room.ensures.same ∙ inv.same;
      made = λ k d in_range. c.make_room.ensures.kept _ (inv.made k d in_range);
      copied = pushed ∙ ap (λ (l : List ReadingRow). l ++ copy ∷ []) inv.copied
          ∙ ap (λ (r : ReadingRow). take i added ++ r ∷ []) (c.in_ok-copy_of.ensures ∙ c.row-item.is) ∙ sym (take_more added i row lt);
      bounded = subst (All (λ (r : ReadingRow). r.point < bound)) (sym pushed)
          (All-push (λ (r : ReadingRow). r.point < bound) rows copy
          (All-weaker (λ (r : ReadingRow). r.point < c.loop-row.bound) (λ (r : ReadingRow). r.point < bound) (λ r below. omega (arith, below, c.max-bound.ensures)) rows inv.bounded)
          (subst (λ (r : ReadingRow). r.point < bound) (sym c.in_ok-copy_of.ensures) above));
      small = omega (arith, c.max-bound.ensures, c.from.ensures, inv.small);
      room = subst (HaveRoom c.make_room.new.histories.items) (sym (pushed ∙ ap (λ (l : List ReadingRow). l ++ copy ∷ []) (sym c.deref.ensures.value)))
          (c.in_ok-make_room.ensures.room copy (ap (λ (r : ReadingRow). r.point) c.in_ok-copy_of.ensures));
    }
