use Rattle.std.proofs.Common.{◌≡◌, Option, IfOk, ap, subst, ◌∙◌}
use Rattle.poll_book.specs.declared.rows.Reading.{Reading}
use Rattle.poll_book.specs.Tables.{Key, Tables, reading_at}
use Rattle.poll_book.specs.Histories.{own, readings_of, slots_of}
use Rattle.poll_book.proofs.Tabled.{at_own}
use Rattle.poll_book.proofs.mem_tables.MemTables.reading.Goals as goal

pub returns : goal.returns
returns c =
    let number = c.args.point in
    let key : Key = (number, c.args.slot) in
    let rows : slots_of number c.slots_in-slots.result.now ≡ own number c.args.self.now.readings =
    c.slots_in-slots.ensures.own ∙ ap (λ l. own number (readings_of l)) c.deref.ensures.value ∙ ap (λ (t : Tables). own number t.readings) c.self.view_is in
    subst (λ (there : Option Reading). IfOk c.reading_at.result (λ found. found ≡ there))
    (ap (λ l. reading_at l key) rows ∙ at_own number c.args.slot c.args.self.now.readings)
    c.reading_at.ensures
