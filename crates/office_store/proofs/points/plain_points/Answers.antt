use Rattle.std.proofs.Common.{[], Ok, Err, Result, OnOk}
use Rattle.sqlite.specs.Held.{state}
use Rattle.office_store.specs.Texts.{points_text}
use Rattle.office_store.proofs.Asking.{after_ok}
use Rattle.office_store.proofs.Queries.{points_is_query}
use Rattle.office_store.proofs.ByNumber as by
use Rattle.office_store.proofs.points.plain_points.Goals as goal

pub ask-requires-clause-query : goal.ask-requires-clause-query
ask-requires-clause-query g c = points_is_query

pub returns-in-Ok-clause-value : goal.returns-in-Ok-clause-value
returns-in-Ok-clause-value g c clean kept holds =
    let old = state g.S.Store c.args.connection.now in
    let new = state g.S.Store c.ask.new.connection in
    let rows = c.in-Ok.rows.items in
    let shown = c.in-Ok.ensures.rows clean in
    let held = holds (c.ask.ensures.keeps.clean clean) (after_ok points_text [] old new points_is_query rows shown).0.was_open in
    by.plain_points old new kept held rows shown c.all_of.result (rw c.deref.ensures.value at c.all_of.ensures.shown)

ok_then : {A E : Type 0} {Q : Type 0} (r : Result A E) → Q → OnOk r Q
ok_then (Ok x) q = q
ok_then (Err e) q = tt

pub returns-in-Ok-clause-in_order : goal.returns-in-Ok-clause-in_order
returns-in-Ok-clause-in_order g c clean kept holds =
    let old = state g.S.Store c.args.connection.now in
    let new = state g.S.Store c.ask.new.connection in
    let shown = c.in-Ok.ensures.rows clean in
    let held = holds (c.ask.ensures.keeps.clean clean) (after_ok points_text [] old new points_is_query c.in-Ok.rows.items shown).0.was_open in
    ok_then c.all_of.result held.stands.points.sorted
