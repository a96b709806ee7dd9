use Rattle.std.proofs.Common.{◌≡◌, ◌∙◌, true, Some, None, cond, sym, ap}
use Rattle.poll_book.specs.Orders.{point_at}
use Rattle.poll_book.specs.Totals as totals
use Rattle.office_core.specs.History.{points, kept_readings, tables}
use Rattle.office_core.specs.Offices.{value_after_at}
use Rattle.office_core.proofs.office.Office.value_after.Goals as goal

pub returns-clause-value : goal.returns-clause-value
returns-clause-value g c clean before stands =
    let known = c.in-Some.row in
    let slot = c.args.slot in
    let found : point_at (points before) c.args.number ≡ Some known = sym (c.point_numbered.ensures before stands) ∙ c.in-Some.is in
    let counts : totals.is_counter known.point.role ≡ true = ap totals.is_counter c.in-Counter.is in
    c.in_ok-after.ensures.value clean (tables before) stands.tables
    ∙ sym (ap (λ b. cond b (totals.value_after known slot (kept_readings before)) None) counts)
    ∙ sym (ap (λ o. value_after_at before o slot) found)
