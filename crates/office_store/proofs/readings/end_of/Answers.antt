use Rattle.std.proofs.Common.{IfOk, subst}
use Rattle.sqlite.specs.Held.{state}
use Rattle.office_store.specs.Ends.{ShowEnd}
use Rattle.office_store.specs.Texts.{last_reading_text}
use Rattle.office_store.proofs.Asking.{after_ok}
use Rattle.office_store.proofs.LastReading.{end_shown, exact_shown, given}
use Rattle.office_store.proofs.Queries.{last_reading_is_query}
use Rattle.office_store.proofs.readings.end_of.Goals as goal

pub ask-requires-clause-query : goal.ask-requires-clause-query
ask-requires-clause-query g c = last_reading_is_query

pub returns-in-Ok-clause-value : goal.returns-in-Ok-clause-value
returns-in-Ok-clause-value g c clean kept holds =
    let old = state g.S.Store c.args.connection.now in
    let new = state g.S.Store c.ask.new.connection in
    let rows = c.in-Ok.rows.items in
    let shown = rw c.params-to_sql.ensures at (c.in-Ok.ensures.rows clean) in
    let held = holds (c.ask.ensures.keeps.clean clean) (after_ok last_reading_text (given c.args.point) old new last_reading_is_query rows shown).0.was_open in
    end_shown c.args.point old new kept held rows shown c.end_shown.result (subst (λ rs. IfOk c.end_shown.result (ShowEnd rs)) c.deref.ensures.value c.end_shown.ensures.shown)

pub returns-in-Ok-clause-exact : goal.returns-in-Ok-clause-exact
returns-in-Ok-clause-exact g c clean kept holds =
    let old = state g.S.Store c.args.connection.now in
    let new = state g.S.Store c.ask.new.connection in
    let rows = c.in-Ok.rows.items in
    let shown = rw c.params-to_sql.ensures at (c.in-Ok.ensures.rows clean) in
    let held = holds (c.ask.ensures.keeps.clean clean) (after_ok last_reading_text (given c.args.point) old new last_reading_is_query rows shown).0.was_open in
    exact_shown c.args.point old new kept held rows shown c.end_shown.result (subst (λ rs. IfOk c.end_shown.result (ShowEnd rs)) c.deref.ensures.value c.end_shown.ensures.shown)
