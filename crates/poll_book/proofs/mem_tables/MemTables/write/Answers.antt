use Rattle.std.proofs.Common.{List, length, sym, subst, arith}
use Rattle.poll_book.specs.declared.rows.PointRow.{PointRow}
use Rattle.poll_book.specs.declared.rows.ReadingRow.{ReadingRow}
use Rattle.poll_book.specs.Histories.{HaveHistories}
use Rattle.poll_book.specs.Marks.{AreRight}
use Rattle.poll_book.proofs.mem_tables.MemTables.write.Goals as goal

pub invariant_of-self-in_err-reserve : goal.invariant_of-self-in_err-reserve
invariant_of-self-in_err-reserve c = record {
  counted = rw c.reserve.ensures.items c.self.invariant.counted;
  ordered = c.staged.ensures.ordered;
  by_point = c.self.invariant.by_point;
  rising = c.self.invariant.rising;
  right = rw c.reserve.ensures.items c.self.invariant.right;
}

pub invariant_of-self-in_err-reserve-3 : goal.invariant_of-self-in_err-reserve-3
invariant_of-self-in_err-reserve-3 c = record {
  counted = rw c.reserve.ensures.items c.self.invariant.counted;
  ordered = c.staged.ensures.ordered;
  by_point = rw c.reserve-2.ensures.items c.self.invariant.by_point;
  rising = rw c.reserve-3.ensures.items c.self.invariant.rising;
  right = rw (c.reserve.ensures.items, c.reserve-3.ensures.items) c.self.invariant.right;
}

pub invariant_of-self-in_err-reserve-2 : goal.invariant_of-self-in_err-reserve-2
invariant_of-self-in_err-reserve-2 c = record {
  counted = rw c.reserve.ensures.items c.self.invariant.counted;
  ordered = c.staged.ensures.ordered;
  by_point = rw c.reserve-2.ensures.items c.self.invariant.by_point;
  rising = c.self.invariant.rising;
  right = rw c.reserve.ensures.items c.self.invariant.right;
}

pub invariant_of-self-in_err-void : goal.invariant_of-self-in_err-void
invariant_of-self-in_err-void c = record {
  counted = rw c.reserve.ensures.items c.self.invariant.counted;
  ordered = c.staged.ensures.ordered;
  by_point = rw c.reserve-2.ensures.items c.self.invariant.by_point;
  rising = rw c.reserve-3.ensures.items c.self.invariant.rising;
  right = rw (c.reserve.ensures.items, c.reserve-3.ensures.items) c.self.invariant.right;
}

pub invariant_of-self-in-Err : goal.invariant_of-self-in-Err
invariant_of-self-in-Err c = record {
  counted = rw c.reserve.ensures.items c.self.invariant.counted;
  ordered = c.staged.ensures.ordered;
  by_point = rw c.reserve-2.ensures.items c.self.invariant.by_point;
  rising = rw c.reserve-3.ensures.items c.self.invariant.rising;
  right = rw (c.reserve.ensures.items, c.reserve-3.ensures.items) c.self.invariant.right;
}

pub put_totals-requires-clause-room : goal.put_totals-requires-clause-room
put_totals-requires-clause-room c =
    c.begin_totals.ensures.room (length c.as_slice-totals.result.now) (let enough = c.in_ok-reserve-2.ensures.ok in omega (arith, enough))

pub put_all-requires-clause-made : goal.put_all-requires-clause-made
put_all-requires-clause-made c =
    subst (λ (rows : List ReadingRow). HaveHistories c.staged.new.histories.items rows) (sym c.in_ok-rows.ensures.copied) c.staged.ensures.made

pub invariant_of-self-2 : goal.invariant_of-self-2
invariant_of-self-2 c = record {
  counted = c.add_points-self-inside.ensures.counted;
  ordered = c.put_all.ensures.ordered;
  by_point = c.put_totals.ensures.rising;
  rising = c.put_order.ensures.rising;
  right =
      c.put_order.ensures.right c.add_points-self-inside.new.points.items
      (subst (λ (points : List PointRow). AreRight points c.reserve-3.new.self.items c.forget_for.new.marks) (sym c.add_points-self-inside.ensures.added)
      (c.forget_for.ensures c.reserve.new.self.items c.reserve-3.new.self.items (rw (c.reserve.ensures.items, c.reserve-3.ensures.items) c.self.invariant.right)));
}
