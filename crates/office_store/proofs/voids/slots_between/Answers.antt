use Rattle.sqlite.specs.Held.{state}
use Rattle.office_store.specs.Texts.{void_slots_text}
use Rattle.office_store.proofs.Asking.{after_ok}
use Rattle.office_store.proofs.Queries.{void_slots_is_query}
use Rattle.office_store.proofs.VoidSlots.{are_voids, given}
use Rattle.office_store.proofs.voids.slots_between.Goals as goal

pub ask-requires-clause-query : goal.ask-requires-clause-query
ask-requires-clause-query g c = void_slots_is_query

pub returns-in-Ok-clause-value : goal.returns-in-Ok-clause-value
returns-in-Ok-clause-value g c clean kept holds =
    let old = state g.S.Store c.args.connection.now in
    let new = state g.S.Store c.ask.new.connection in
    let rows = c.in-Ok.rows.items in
    let shown = rw (c.params-to_sql.ensures, c.params-to_sql-2.ensures, c.params-to_sql-3.ensures) at (c.in-Ok.ensures.rows clean) in
    let keys = given c.args.point c.args.from c.args.to in
    let held = holds (c.ask.ensures.keeps.clean clean) (after_ok void_slots_text keys old new void_slots_is_query rows shown).0.was_open in
    are_voids c.args.point c.args.from c.args.to old new kept held rows shown c.slots_shown.result (rw c.deref.ensures.value at c.slots_shown.ensures)
