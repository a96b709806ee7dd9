use Rattle.std.proofs.Common.{[], sym, ap, subst, ◌∙◌}
use Rattle.sqlite.specs.Held.{state}
use Rattle.sqlite.specs.State.{Shown}
use Rattle.office_store.specs.Rows.{number_of}
use Rattle.office_store.specs.Texts.{last_text}
use Rattle.office_store.proofs.Asking.{after_ok}
use Rattle.office_store.proofs.Queries.{last_is_query}
use Rattle.office_store.proofs.Only.{nothing, only}
use Rattle.office_store.proofs.LastOrder.{no_order, one_order}
use Rattle.office_store.proofs.settings.last_order.Goals as goal

pub ask-requires-clause-query : goal.ask-requires-clause-query
ask-requires-clause-query g c = last_is_query

pub returns-in-Some-clause-value : goal.returns-in-Some-clause-value
returns-in-Some-clause-value g c clean kept holds =
    let old = state g.S.Store c.args.connection.now in
    let new = state g.S.Store c.ask.new.connection in
    let rows = c.in-Ok.rows.items in
    let row = c.row-item.result in
    let shown = c.in-Ok.ensures.rows clean in
    let held = holds (c.ask.ensures.keeps.clean clean) (after_ok last_text [] old new last_is_query rows shown).0.was_open in
    let all = only rows c.as_slice.result.now row c.as_slice.ensures.value c.in-len1.len_at_least c.in-len1.len_below c.row-item.is in
    let some = sym (c.number_of.ensures ∙ ap number_of c.value_at.ensures) ∙ c.in-Some.is in
    one_order old new kept held row (subst (Shown last_text [] old new) all shown) c.in-Some.number some

pub returns-in-Some-clause-open : goal.returns-in-Some-clause-open
returns-in-Some-clause-open g c clean =
    let old = state g.S.Store c.args.connection.now in
    let new = state g.S.Store c.ask.new.connection in
    (after_ok last_text [] old new last_is_query c.in-Ok.rows.items (c.in-Ok.ensures.rows clean)).0.was_open

pub returns-in-empty-clause-open : goal.returns-in-empty-clause-open
returns-in-empty-clause-open g c clean =
    let old = state g.S.Store c.args.connection.now in
    let new = state g.S.Store c.ask.new.connection in
    (after_ok last_text [] old new last_is_query c.in-Ok.rows.items (c.in-Ok.ensures.rows clean)).0.was_open

pub returns-in-empty-clause-value : goal.returns-in-empty-clause-value
returns-in-empty-clause-value g c clean kept holds =
    let old = state g.S.Store c.args.connection.now in
    let new = state g.S.Store c.ask.new.connection in
    let rows = c.in-Ok.rows.items in
    let shown = c.in-Ok.ensures.rows clean in
    let held = holds (c.ask.ensures.keeps.clean clean) (after_ok last_text [] old new last_is_query rows shown).0.was_open in
    no_order old new kept held (subst (Shown last_text [] old new) (nothing rows c.as_slice.result.now c.as_slice.ensures.value c.in-empty.len_below) shown)
