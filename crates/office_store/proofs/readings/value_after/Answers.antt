use Rattle.std.proofs.Common.{subst}
use Rattle.sqlite.specs.Held.{state}
use Rattle.office_store.specs.Counting.{ShowValue}
use Rattle.office_store.specs.Texts.{value_after_text}
use Rattle.office_store.proofs.Asking.{after_ok}
use Rattle.office_store.proofs.Nearest.{after_shown, each_value, given}
use Rattle.office_store.proofs.Queries.{value_after_is_query}
use Rattle.office_store.proofs.readings.value_after.Goals as goal

pub ask-requires-clause-query : goal.ask-requires-clause-query
ask-requires-clause-query g c = value_after_is_query

pub returns-in-Ok-clause-value : goal.returns-in-Ok-clause-value
returns-in-Ok-clause-value g c clean kept holds =
    let old = state g.S.Store c.args.connection.now in
    let new = state g.S.Store c.ask.new.connection in
    let known = c.args.point.now in
    let rows = c.in-Ok.rows.items in
    let shown = rw (c.params-to_sql.ensures, c.params-to_sql-2.ensures) at (c.in-Ok.ensures.rows clean) in
    let held = holds (c.ask.ensures.keeps.clean clean) (after_ok value_after_text (given known.number c.args.slot) old new value_after_is_query rows shown).0.was_open in
    each_value c.value_shown.result (λ value is. after_shown known c.args.slot old new kept held rows shown value (subst (λ l. ShowValue known.point l value) c.deref.ensures.value is)) c.value_shown.ensures.value
