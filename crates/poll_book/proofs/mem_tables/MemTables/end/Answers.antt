use Rattle.std.proofs.Common.{◌≡◌, ap, ◌∙◌}
use Rattle.poll_book.specs.Tables.{Tables}
use Rattle.poll_book.specs.Histories.{end_of, own, readings_of, slots_of}
use Rattle.poll_book.proofs.Ends.{end_own}
use Rattle.poll_book.proofs.mem_tables.MemTables.end.Goals as goal

pub returns-clause-value : goal.returns-clause-value
returns-clause-value c =
    let number = c.args.point in
    let rows : slots_of number c.slots_in.result.now ≡ own number c.args.self.now.readings =
    c.slots_in.ensures.own ∙ ap (λ l. own number (readings_of l)) c.deref.ensures.value ∙ ap (λ (t : Tables). own number t.readings) c.self.view_is in
    c.slots_end.ensures.value number ∙ ap (end_of number) rows ∙ end_own number c.args.self.now.readings
