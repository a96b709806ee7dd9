use Rattle.std.proofs.Common.{[]}
use Rattle.sqlite.specs.Held.{state}
use Rattle.office_store.specs.Texts.{waiting_text}
use Rattle.office_store.proofs.Asking.{after_ok}
use Rattle.office_store.proofs.Queries.{waiting_is_query}
use Rattle.office_store.proofs.AllWaiting.{all_waiting}
use Rattle.office_store.proofs.settings.all_waiting.Goals as goal

pub ask-requires-clause-query : goal.ask-requires-clause-query
ask-requires-clause-query g c = waiting_is_query

pub returns-in-Ok-clause-value : goal.returns-in-Ok-clause-value
returns-in-Ok-clause-value g c clean kept holds =
    let old = state g.S.Store c.args.connection.now in
    let new = state g.S.Store c.ask.new.connection in
    let rows = c.in-Ok.rows.items in
    let shown = c.in-Ok.ensures.rows clean in
    let held = holds (c.ask.ensures.keeps.clean clean) (after_ok waiting_text [] old new waiting_is_query rows shown).0.was_open in
    all_waiting old new kept held rows shown c.all_of.result (rw c.deref.ensures.value at c.all_of.ensures.shown)
