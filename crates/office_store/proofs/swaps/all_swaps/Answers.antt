use Rattle.std.proofs.Common.{[]}
use Rattle.sqlite.specs.Held.{state}
use Rattle.office_store.specs.Texts.{swaps_text}
use Rattle.office_store.proofs.Asking.{after_ok}
use Rattle.office_store.proofs.Queries.{swaps_is_query}
use Rattle.office_store.proofs.ShownSwaps as shown
use Rattle.office_store.proofs.swaps.all_swaps.Goals as goal

pub ask-requires-clause-query : goal.ask-requires-clause-query
ask-requires-clause-query g c = swaps_is_query

pub returns-in-Ok-clause-value : goal.returns-in-Ok-clause-value
returns-in-Ok-clause-value g c clean kept holds =
    let old = state g.S.Store c.args.connection.now in
    let new = state g.S.Store c.ask.new.connection in
    let rows = c.in-Ok.rows.items in
    let is = c.in-Ok.ensures.rows clean in
    let held = holds (c.ask.ensures.keeps.clean clean) (after_ok swaps_text [] old new swaps_is_query rows is).0.was_open in
    shown.all_swaps old new kept held rows is c.all_of.result (rw c.deref.ensures.value at c.all_of.ensures.shown)
