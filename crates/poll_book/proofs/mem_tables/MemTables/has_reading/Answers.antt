use Rattle.std.proofs.Common.{◌≡◌, ap, ◌∙◌}
use Rattle.std.specs.Prelude.{is_some}
use Rattle.poll_book.specs.Tables.{Key, Tables, reading_at}
use Rattle.poll_book.specs.Histories.{own, readings_of, slots_of}
use Rattle.poll_book.proofs.Tabled.{at_own}
use Rattle.poll_book.proofs.mem_tables.MemTables.has_reading.Goals as goal

pub returns : goal.returns
returns c =
    let number = c.args.point in
    let key : Key = (number, c.args.slot) in
    let rows : slots_of number c.slots_in.result.now ≡ own number c.args.self.now.readings =
    c.slots_in.ensures.own ∙ ap (λ l. own number (readings_of l)) c.deref.ensures.value ∙ ap (λ (t : Tables). own number t.readings) c.self.view_is in
    c.has_slot.ensures number ∙ ap is_some (ap (λ l. reading_at l key) rows ∙ at_own number c.args.slot c.args.self.now.readings)
