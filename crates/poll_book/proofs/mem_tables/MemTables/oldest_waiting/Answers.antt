use Rattle.poll_book.proofs.mem_tables.MemTables.oldest_waiting.Goals as goal

pub next_waiting-place-requires-clause-past : goal.next_waiting-place-requires-clause-past
next_waiting-place-requires-clause-past c =
    let passed = rw c.deref.ensures.value at (c.pass_settled.ensures c.self.inside.points.items) in
    c.past_of-from.ensures c.deref-2.result.now c.deref-3.result.now (rw (c.deref-2.ensures.value, c.deref-3.ensures.value) (passed c.self.invariant.right))

pub invariant_of-self : goal.invariant_of-self
invariant_of-self c =
    let before = c.self.invariant in
    let passed = rw c.deref.ensures.value at (c.pass_settled.ensures c.self.inside.points.items) in
    let past = rw (c.deref-2.ensures.value, c.deref-3.ensures.value) at c.next_waiting-place.ensures.past in
    record {
      counted = before.counted;
      ordered = before.ordered;
      by_point = before.by_point;
      rising = before.rising;
      right = c.set_mark.ensures c.self.inside.points.items c.self.inside.orders.items (passed before.right) past;
    }
