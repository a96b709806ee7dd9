use Rattle.std.proofs.Common.{subst, Ok, Err, Result, IfOk, OnOk}
use Rattle.sqlite.specs.Held.{state}
use Rattle.sqlite.specs.State.{Shown}
use Rattle.office_store.specs.Texts.{total_text}
use Rattle.office_store.proofs.Asking.{after_ok}
use Rattle.office_store.proofs.Queries.{total_is_query}
use Rattle.office_store.proofs.Only.{nothing, only}
use Rattle.office_store.proofs.ByNumber.{given}
use Rattle.office_store.proofs.ShownTotals.{no_total, one_total}
use Rattle.office_store.proofs.Counts.{low_slots}
use Rattle.office_store.proofs.totals.total.Goals as goal

pub ask-requires-clause-query : goal.ask-requires-clause-query
ask-requires-clause-query g c = total_is_query

pub returns-in-empty-clause-value : goal.returns-in-empty-clause-value
returns-in-empty-clause-value g c clean kept holds =
    let old = state g.S.Store c.args.connection.now in
    let new = state g.S.Store c.ask.new.connection in
    let rows = c.in-Ok.rows.items in
    let shown = rw c.params-to_sql.ensures at (c.in-Ok.ensures.rows clean) in
    let held = holds (c.ask.ensures.keeps.clean clean) (after_ok total_text (given c.args.point) old new total_is_query rows shown).0.was_open in
    let none = nothing rows c.as_slice.result.now c.as_slice.ensures.value c.in-empty.len_below in
    no_total c.args.point old new kept held (subst (Shown total_text (given c.args.point) old new) none shown)

value_then : {A E : Type 0} {P Q : A → Type 0} (r : Result A E) → ((x : A) → P x → Q x) → IfOk r P → IfOk r Q
value_then (Ok x) then is = then x is
value_then (Err e) then is = tt

ok_then : {A E : Type 0} {Q : Type 0} (r : Result A E) → Q → OnOk r Q
ok_then (Ok x) q = q
ok_then (Err e) q = tt

pub returns-in-empty-clause-slots : goal.returns-in-empty-clause-slots
returns-in-empty-clause-slots g c clean kept holds =
    let old = state g.S.Store c.args.connection.now in
    let new = state g.S.Store c.ask.new.connection in
    let shown = rw c.params-to_sql.ensures at (c.in-Ok.ensures.rows clean) in
    low_slots old kept (holds (c.ask.ensures.keeps.clean clean) (after_ok total_text (given c.args.point) old new total_is_query c.in-Ok.rows.items shown).0.was_open)

pub returns-in-len1-clause-value : goal.returns-in-len1-clause-value
returns-in-len1-clause-value g c clean kept holds =
    let old = state g.S.Store c.args.connection.now in
    let new = state g.S.Store c.ask.new.connection in
    let rows = c.in-Ok.rows.items in
    let row = c.row-item.result in
    let shown = rw c.params-to_sql.ensures at (c.in-Ok.ensures.rows clean) in
    let held = holds (c.ask.ensures.keeps.clean clean) (after_ok total_text (given c.args.point) old new total_is_query rows shown).0.was_open in
    let all = only rows c.as_slice.result.now row c.as_slice.ensures.value c.in-len1.len_at_least c.in-len1.len_below c.row-item.is in
    value_then c.sum_of.result (one_total c.args.point old new kept held row (subst (Shown total_text (given c.args.point) old new) all shown)) c.sum_of.ensures

pub returns-in-len1-clause-slots : goal.returns-in-len1-clause-slots
returns-in-len1-clause-slots g c clean kept holds =
    let old = state g.S.Store c.args.connection.now in
    let new = state g.S.Store c.ask.new.connection in
    let shown = rw c.params-to_sql.ensures at (c.in-Ok.ensures.rows clean) in
    ok_then c.sum_of.result (low_slots old kept (holds (c.ask.ensures.keeps.clean clean) (after_ok total_text (given c.args.point) old new total_is_query c.in-Ok.rows.items shown).0.was_open))
