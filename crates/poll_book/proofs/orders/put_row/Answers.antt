use Rattle.std.proofs.Common.{◌≡◌, set, refl, ap, sym, subst, ◌∙◌, arith}
use Rattle.std.specs.List.{insert}
use Rattle.poll_book.specs.Marks.{AreRight, number_of, settings_of}
use Rattle.poll_book.specs.Histories.{IsAt, IsGap}
use Rattle.poll_book.proofs.Places.{rising_insert}
use Rattle.poll_book.proofs.Numbers.{put_over, put_in}
use Rattle.poll_book.proofs.Marked.{right_last, right_over}
use Rattle.poll_book.proofs.orders.put_row.Goals as goal
use Rattle.poll_book.proofs.orders.put_row.Goals.{then-is_waiting, else-is_waiting, then-place-len, else-place-len}

pub returns-after-is_waiting-clause-put : goal.returns-after-is_waiting-clause-put
returns-after-is_waiting-clause-put c =
    put_over c.args.row c.args.orders.now.items c.in-Ok.place (subst (λ l. IsAt number_of l c.args.row.number c.in-Ok.place) c.deref.ensures.value c.in-Ok.ensures.found)

pub returns-after-is_waiting-clause-right : goal.returns-after-is_waiting-clause-right
returns-after-is_waiting-clause-right c = λ points right.
    let orders = set c.args.orders.now.items c.in-Ok.place c.args.row in
    elim c.if-is_waiting.branch [
      | then-is_waiting w ↦
          subst (AreRight points orders) (sym w.marks-is) (w.forget.ensures points orders)
      | else-is_waiting w ↦
          subst (AreRight points orders) (sym w.marks-is)
          (right_over points c.args.orders.now.items c.args.marks.now c.in-Ok.place c.args.row (sym c.is_waiting.ensures ∙ w.if-is_waiting.false) right)
    ]

gap : (c : goal.Joined-insert) → IsGap number_of c.args.orders.now.items c.args.row.number c.in-Err.place
gap c = subst (λ l. IsGap number_of l c.args.row.number c.in-Err.place) c.deref.ensures.value c.in-Err.ensures.absent

inserted : (c : goal.Joined-insert) → c.insert.new.self.items ≡ insert c.args.orders.now.items c.in-Err.place c.args.row
inserted c = let ok = c.insert.ensures.succeeds c.requires.room in let items = c.insert.ensures.items in grind arith

pub returns-after-place-len-clause-rising : goal.returns-after-place-len-clause-rising
returns-after-place-len-clause-rising c =
    rw (inserted c) (rising_insert number_of c.args.orders.now.items c.args.row.number c.in-Err.place (gap c) c.args.row refl c.requires.rising)

pub returns-after-place-len-clause-put : goal.returns-after-place-len-clause-put
returns-after-place-len-clause-put c = ap settings_of (inserted c) ∙ put_in c.args.row c.args.orders.now.items c.in-Err.place (gap c)

pub returns-after-place-len-clause-right : goal.returns-after-place-len-clause-right
returns-after-place-len-clause-right c = λ points right.
    let before = c.args.orders.now.items in
    let orders = insert before c.in-Err.place c.args.row in
    subst (λ l. AreRight points l c.if-place-len.marks) (sym (inserted c))
    (elim c.if-place-len.branch [
      | then-place-len w ↦
          subst (AreRight points orders) (sym w.marks-is) (w.forget-then-place-len.ensures points orders)
      | else-place-len w ↦
          subst (AreRight points orders) (sym w.marks-is)
          (right_last points before c.args.marks.now c.in-Err.place c.args.row (omega (arith, (gap c).in_range, c.deref.ensures.len, c.len.ensures, w.if-place-len.false)) right)
    ])
