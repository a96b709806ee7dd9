use Rattle.std.proofs.Common.{subst, sym}
use Rattle.sqlite.specs.Held.{state}
use Rattle.office_store.specs.Ends.{ShowFrom}
use Rattle.office_store.specs.Texts.{next_void_text}
use Rattle.office_store.proofs.Asking.{after_ok}
use Rattle.office_store.proofs.NextVoid.{given, next_shown}
use Rattle.office_store.proofs.Queries.{next_void_is_query}
use Rattle.office_store.proofs.voids.voids_from.Goals as goal

pub ask-requires-clause-query : goal.ask-requires-clause-query
ask-requires-clause-query g c = next_void_is_query

pub returns-in-Ok-clause-value : goal.returns-in-Ok-clause-value
returns-in-Ok-clause-value g c clean kept holds =
    let old = state g.S.Store c.args.connection.now in
    let new = state g.S.Store c.ask.new.connection in
    let rows = c.in-Ok.rows.items in
    let shown = rw (c.params-to_sql.ensures, c.params-to_sql-2.ensures) at (c.in-Ok.ensures.rows clean) in
    let keys = given c.args.point c.args.slot in
    let held = holds (c.ask.ensures.keeps.clean clean) (after_ok next_void_text keys old new next_void_is_query rows shown).0.was_open in
    next_shown c.args.point c.args.slot old new kept held rows shown c.shown_from.result (subst (λ rs. ShowFrom c.args.slot rs c.shown_from.result) c.deref.ensures.value c.shown_from.ensures)

pub returns-in-Err-clause-fails : goal.returns-in-Err-clause-fails
returns-in-Err-clause-fails g c clean =
    let failed = rw (c.params-to_sql.ensures, c.params-to_sql-2.ensures) at (c.in-Err.ensures.fails clean) in
    (c.in-Err.error, failed, sym c.fault_of.ensures)
