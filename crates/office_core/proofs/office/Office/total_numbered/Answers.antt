use Rattle.std.proofs.Common.{◌≡◌, subst}
use Rattle.std.specs.Prelude.{◌==◌, IfOk}
use Rattle.poll_book.specs.declared.rows.PointRow.{PointRow}
use Rattle.office_core.specs.History.{points}
use Rattle.office_core.specs.Offices.{total_at}
use Rattle.office_core.proofs.Elements.{one_in}
use Rattle.office_core.proofs.office.Office.total_numbered.Goals as goal

pub returns-clause-value : goal.returns-clause-value
returns-clause-value g c clean before stands =
    let found = c.point_numbered-known.ensures before stands in
    subst (λ o. IfOk c.total_at.result (λ sum. sum ≡ total_at before o)) found
    (c.total_at.ensures.value clean before stands (one_in (λ (point : PointRow). point.number == c.args.number) (points before) c.point_numbered-known.result found))
