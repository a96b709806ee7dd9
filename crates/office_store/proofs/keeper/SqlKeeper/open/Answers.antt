use Rattle.std.proofs.Common.{◌≡◌, ◌≤◌, List, [], length, inl, inr, Some, ap, subst, ◌∙◌, arith, rules}
use Rattle.sqlite_value.specs.Order.{Row, column}
use Rattle.sqlite.specs.Held.{state}
use Rattle.sqlite.specs.State.{Shown}
use Rattle.office_store.specs.Texts.{version_text}
use Rattle.office_store.specs.Rows.{number_of}
use Rattle.office_store.proofs.Queries.{version_is_query}
use Rattle.office_store.proofs.Only.{nothing, only}
use Rattle.office_store.proofs.Versions.{earlier_shown, shown_open}
use Rattle.office_store.proofs.keeper.SqlKeeper.open.Goals.{then-eq, else-eq}
use Rattle.office_store.proofs.keeper.SqlKeeper.open.Goals as goal

pub ask-requires-clause-query : goal.ask-requires-clause-query
ask-requires-clause-query g c = version_is_query

pub returns-in-Err-clause-not_office : goal.returns-in-Err-clause-not_office
returns-in-Err-clause-not_office g c told clean = elim c.if-eq.branch [
  | then-eq w ↦ inr (c.in-Err.error, c.in-Err.ensures.fails clean, search rules)
  | else-eq w ↦ absurd (let no = w.told-is in cc)
]

pub returns-in-Err-clause-failed : goal.returns-in-Err-clause-failed
returns-in-Err-clause-failed g c fault told known clean = elim c.if-eq.branch [
  | then-eq w ↦ absurd (let no = w.told-is in cc)
  | else-eq w ↦ (c.in-Err.error, c.in-Err.ensures.fails clean, cc (w.told-is, told, c.fault_of-fault.ensures))
]

pub returns-in-empty-clause-not_office : goal.returns-in-empty-clause-not_office
returns-in-empty-clause-not_office g c told clean =
    let none = nothing c.in-Ok.rows.items c.as_slice.result.now c.as_slice.ensures.value c.in-empty.len_below in
    inl (subst (Shown version_text [] (state g.S.Store c.args.connection) (state g.S.Store c.ask.new.connection)) none (c.in-Ok.ensures.rows clean))

pub returns-then-eq-2-clause-known : goal.returns-then-eq-2-clause-known
returns-then-eq-2-clause-known g c clean =
    let row = c.row-item.result in
    let all = only c.in-Ok.rows.items c.as_slice.result.now row c.as_slice.ensures.value c.in-len1.len_at_least c.in-len1.len_below c.row-item.is in
    (row, subst (Shown version_text [] (state g.S.Store c.args.connection) (state g.S.Store c.ask.new.connection)) all (c.in-Ok.ensures.rows clean), search rules)

pub returns-then-eq-2-clause-earlier : goal.returns-then-eq-2-clause-earlier
returns-then-eq-2-clause-earlier g c clean kept was =
    let old = state g.S.Store c.args.connection in
    let new = state g.S.Store c.ask.new.connection in
    let row = c.row-item.result in
    let all = only c.in-Ok.rows.items c.as_slice.result.now row c.as_slice.ensures.value c.in-len1.len_at_least c.in-len1.len_below c.row-item.is in
    let shown = subst (Shown version_text [] old new) all (c.in-Ok.ensures.rows clean) in
    let is : number_of (column row 0) ≡ Some 2 = search rules in
    absurd (let bad = earlier_shown old new kept was row shown 2 is in omega (arith, bad))

pub returns-in-len1-clause-bad_version : goal.returns-in-len1-clause-bad_version
returns-in-len1-clause-bad_version g c told clean =
    let row = c.row-item.result in
    let all = only c.in-Ok.rows.items c.as_slice.result.now row c.as_slice.ensures.value c.in-len1.len_at_least c.in-len1.len_below c.row-item.is in (
      row,
      subst (Shown version_text [] (state g.S.Store c.args.connection) (state g.S.Store c.ask.new.connection)) all (c.in-Ok.ensures.rows clean),
      λ h.
          let is : c.number_of.result ≡ Some 2 = c.number_of.ensures ∙ ap number_of c.value_at.ensures ∙ h in
          absurd (let bad = rw is at c.if-eq-2.ensures in cc),
    )

pub returns-then-eq-2-clause-was_open : goal.returns-then-eq-2-clause-was_open
returns-then-eq-2-clause-was_open g c clean =
    shown_open (state g.S.Store c.args.connection) (state g.S.Store c.ask.new.connection) c.in-Ok.rows.items (c.in-Ok.ensures.rows clean)

pub returns-clause-other : goal.returns-clause-other
returns-clause-other g c told clean = inr (c.in-Ok.rows.items, c.in-Ok.ensures.rows clean, subst (λ (rows : List Row). 2 ≤ length rows) c.as_slice.ensures.value c.in_default.len_at_least)
