use Rattle.std.proofs.Common.{◌≡◌, ap, ltb, ◌∙◌}
use Rattle.poll_book.specs.Tables.{Tables}
use Rattle.poll_book.specs.Totals.{first_of, numbers_after}
use Rattle.poll_book.specs.Histories.{own, readings_of, slots_of}
use Rattle.poll_book.proofs.Slots.{filtered_own}
use Rattle.poll_book.proofs.mem_tables.MemTables.after.Goals as goal

pub returns-clause-value : goal.returns-clause-value
returns-clause-value c =
    let known = c.args.point.now in
    let number = known.number in
    let rows : slots_of number c.slots_in-slots.result.now ≡ own number c.args.self.now.readings =
    c.slots_in-slots.ensures.own ∙ ap (λ l. own number (readings_of l)) c.deref.ensures.value ∙ ap (λ (t : Tables). own number t.readings) c.self.view_is in
    c.first_counted.ensures.value
    ∙ ap first_of (c.slots_after.ensures known ∙ ap (numbers_after known c.args.slot) rows ∙ filtered_own known (λ row. ltb c.args.slot row.0.1) c.args.self.now.readings)
