use Rattle.std.proofs.Common.{◌≡◌, ◌∙◌, true, Some, None, cond, sym, ap, subst}
use Rattle.std.specs.Prelude.{Contains, IfSome, unwrap_or}
use Rattle.poll_book.specs.declared.rows.PointRow.{PointRow}
use Rattle.poll_book.specs.Tables.{Sums, sum_at}
use Rattle.poll_book.specs.Totals as totals
use Rattle.office_core.specs.History.{History, points, kept_readings, tables, total}
use Rattle.office_core.specs.Offices.{total_at}
use Rattle.office_core.proofs.CountedTables.{counted_tables}
use Rattle.office_core.proofs.Totalled.{stored_sum}
use Rattle.office_core.proofs.office.Office.total_at.Goals as goal

-- what is stored of a known counter is its total
stored_is : (before : History) (known : PointRow) → Contains (points before) known → totals.is_counter known.point.role ≡ true
    → Some (totals.stored_total (tables before).totals known.number) ≡ total_at before (Some known)
stored_is before known there counts =
    let copy = counted_tables before in
    let stored : sum_at (tables before).totals known.number ≡ Some (total before known) =
    ap (λ (l : Sums). sum_at l known.number) copy.totals ∙ stored_sum (points before) (kept_readings before) known copy.points there counts in
    ap (λ o. Some (unwrap_or o 0)) stored
    ∙ sym (ap (λ b. cond b (Some (total before known)) None) counts)

pub returns-clause-value : goal.returns-clause-value
returns-clause-value g c clean before stands there =
    let counts : totals.is_counter c.in-Some.row.point.role ≡ true = ap totals.is_counter c.in-Counter.is in
    let known = subst (λ o. IfSome o (Contains (points before))) c.in-Some.is there in
    ap Some (c.in_ok-total.ensures.value clean (tables before) stands.tables) ∙ stored_is before c.in-Some.row known counts
    ∙ sym (ap (total_at before) c.in-Some.is)
