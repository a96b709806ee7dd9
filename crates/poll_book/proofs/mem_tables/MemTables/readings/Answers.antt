use Rattle.std.proofs.Common.{◌≡◌, IfOk, map, ap, subst, ◌∙◌}
use Rattle.poll_book.specs.Showing.{as_shown, with_marks}
use Rattle.poll_book.specs.Tables.{Readings, Tables, Voids, readings_between}
use Rattle.poll_book.specs.Histories.{own, readings_of, slots_of}
use Rattle.poll_book.proofs.Tabled.{between_own}
use Rattle.poll_book.proofs.mem_tables.MemTables.readings.Goals as goal

pub returns : goal.returns
returns c =
    let number = c.args.point in
    let rows : slots_of number c.slots_in-slots.result.now ≡ own number c.args.self.now.readings =
    c.slots_in-slots.ensures.own ∙ ap (λ l. own number (readings_of l)) c.deref.ensures.value ∙ ap (λ (t : Tables). own number t.readings) c.self.view_is in
    let readings = subst (λ (there : Readings). IfOk c.shown_between.result (λ shown. map as_shown shown.items ≡ with_marks c.self.inside.voids.entries there))
    (ap (readings_between number c.args.from c.args.to) rows ∙ between_own number c.args.from c.args.to c.args.self.now.readings)
    c.shown_between.ensures in
    subst (λ (voids : Voids). IfOk c.shown_between.result (λ shown. map as_shown shown.items ≡ with_marks voids (readings_between number c.args.from c.args.to c.args.self.now.readings)))
    (ap (λ (t : Tables). t.voids) c.self.view_is) readings
