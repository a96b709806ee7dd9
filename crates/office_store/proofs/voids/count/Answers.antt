use Rattle.std.proofs.Common.{[], sym, ap, subst, ◌∙◌, ◌-◌, ◌^◌}
use Rattle.sqlite.specs.Held.{state}
use Rattle.sqlite.specs.State.{Shown}
use Rattle.office_store.specs.Rows.{number_below}
use Rattle.office_store.specs.Texts.{voids_text}
use Rattle.office_store.proofs.Asking.{after_ok}
use Rattle.office_store.proofs.Queries.{voids_is_query}
use Rattle.office_store.proofs.Only.{only}
use Rattle.office_store.proofs.VoidCount.{count_is}
use Rattle.office_store.proofs.voids.count.Goals as goal

pub ask-requires-clause-query : goal.ask-requires-clause-query
ask-requires-clause-query g c = voids_is_query

pub returns-in-Some-clause-value : goal.returns-in-Some-clause-value
returns-in-Some-clause-value g c clean kept holds =
    let old = state g.S.Store c.args.connection.now in
    let new = state g.S.Store c.ask.new.connection in
    let rows = c.in-Ok.rows.items in
    let row = c.row-item.result in
    let shown = c.in-Ok.ensures.rows clean in
    let held = holds (c.ask.ensures.keeps.clean clean) (after_ok voids_text [] old new voids_is_query rows shown).0.was_open in
    let all = only rows c.as_slice.result.now row c.as_slice.ensures.value c.in-len1.len_at_least c.in-len1.len_below c.row-item.is in
    let some = sym (c.count_of.ensures ∙ ap (number_below (2 ^ 63 - 1)) c.value_at.ensures) ∙ c.in-Some.is in
    count_is old new kept held row (subst (Shown voids_text [] old new) all shown) c.in-Some.count some
