use Rattle.std.proofs.Common.{OnOk, Result, Ok, Err}
use Rattle.sqlite.specs.Held.{state}
use Rattle.office_store.specs.Texts.{readings_text}
use Rattle.office_store.proofs.Asking.{after_ok}
use Rattle.office_store.proofs.Queries.{readings_is_query}
use Rattle.office_store.proofs.Slots.{given, all_between}
use Rattle.office_store.proofs.readings.rows_between.Goals as goal

pub ask-requires-clause-query : goal.ask-requires-clause-query
ask-requires-clause-query g c = readings_is_query

pub returns-in-Ok-clause-value : goal.returns-in-Ok-clause-value
returns-in-Ok-clause-value g c clean kept holds =
    let old = state g.S.Store c.args.connection.now in
    let new = state g.S.Store c.ask.new.connection in
    let rows = c.in-Ok.rows.items in
    let shown = rw (c.params-to_sql.ensures, c.params-to_sql-2.ensures, c.params-to_sql-3.ensures) at (c.in-Ok.ensures.rows clean) in
    let keys = given c.args.point c.args.from c.args.to in
    let held = holds (c.ask.ensures.keeps.clean clean) (after_ok readings_text keys old new readings_is_query rows shown).0.was_open in
    all_between c.args.point c.args.from c.args.to old new kept held rows shown c.all_of.result (rw c.deref.ensures.value at c.all_of.ensures.shown)

pub returns-in-Ok-clause-open : goal.returns-in-Ok-clause-open
returns-in-Ok-clause-open g c clean =
    let old = state g.S.Store c.args.connection.now in
    let new = state g.S.Store c.ask.new.connection in
    let rows = c.in-Ok.rows.items in
    let shown = rw (c.params-to_sql.ensures, c.params-to_sql-2.ensures, c.params-to_sql-3.ensures) at (c.in-Ok.ensures.rows clean) in
    either c.all_of.result (after_ok readings_text (given c.args.point c.args.from c.args.to) old new readings_is_query rows shown).0.was_open
  where
    either : {T E P : Type 0} (r : Result T E) → P → OnOk r P
    either (Ok x) p = p
    either (Err e) p = tt
