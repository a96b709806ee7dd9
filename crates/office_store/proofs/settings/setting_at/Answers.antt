use Rattle.std.proofs.Common.{[], subst}
use Rattle.sqlite.specs.Held.{state}
use Rattle.sqlite.specs.State.{Shown}
use Rattle.poll_book.specs.Orders.{as_setting}
use Rattle.office_store.specs.Texts.{setting_text}
use Rattle.office_store.proofs.Asking.{after_ok}
use Rattle.office_store.proofs.Queries.{setting_is_query}
use Rattle.office_store.proofs.Only.{nothing, only}
use Rattle.office_store.proofs.ByNumber.{given, no_setting, one_setting}
use Rattle.office_store.proofs.settings.setting_at.Goals as goal

pub ask-requires-clause-query : goal.ask-requires-clause-query
ask-requires-clause-query g c = setting_is_query

pub returns-in-empty-clause-value : goal.returns-in-empty-clause-value
returns-in-empty-clause-value g c clean kept holds =
    let old = state g.S.Store c.args.connection.now in
    let new = state g.S.Store c.ask.new.connection in
    let rows = c.in-Ok.rows.items in
    let shown = rw c.params-to_sql.ensures at (c.in-Ok.ensures.rows clean) in
    let held = holds (c.ask.ensures.keeps.clean clean) (after_ok setting_text (given c.args.number) old new setting_is_query rows shown).0.was_open in
    let none = nothing rows c.as_slice.result.now c.as_slice.ensures.value c.in-empty.len_below in
    no_setting c.args.number old new kept held (subst (Shown setting_text (given c.args.number) old new) none shown)

pub returns-in-len1-clause-value : goal.returns-in-len1-clause-value
returns-in-len1-clause-value g c clean kept holds =
    let old = state g.S.Store c.args.connection.now in
    let new = state g.S.Store c.ask.new.connection in
    let rows = c.in-Ok.rows.items in
    let row = c.row-item.result in
    let shown = rw c.params-to_sql.ensures at (c.in-Ok.ensures.rows clean) in
    let held = holds (c.ask.ensures.keeps.clean clean) (after_ok setting_text (given c.args.number) old new setting_is_query rows shown).0.was_open in
    let all = only rows c.as_slice.result.now row c.as_slice.ensures.value c.in-len1.len_at_least c.in-len1.len_below c.row-item.is in
    one_setting c.args.number old new kept held row [] (subst (Shown setting_text (given c.args.number) old new) all shown) (as_setting c.in_ok-found-in-len1.found) c.in_ok-found-in-len1.ensures.shown
