use Rattle.std.proofs.Common.{◌≡◌, subst}
use Rattle.std.specs.Prelude.{IfOk}
use Rattle.std.specs.Str.{bytes_eq}
use Rattle.poll_book.specs.declared.rows.PointRow.{PointRow}
use Rattle.office_core.specs.History.{points}
use Rattle.office_core.specs.Offices.{total_at}
use Rattle.office_core.proofs.Elements.{one_in}
use Rattle.office_core.proofs.office.Office.total.Goals as goal

pub returns-clause-value : goal.returns-clause-value
returns-clause-value g c clean before stands =
    let found = c.point-known.ensures before stands in
    subst (λ o. IfOk c.total_at.result (λ sum. sum ≡ total_at before o)) found
    (c.total_at.ensures.value clean before stands (one_in (λ (point : PointRow). bytes_eq point.point.name c.args.point.now) (points before) c.point-known.result found))
