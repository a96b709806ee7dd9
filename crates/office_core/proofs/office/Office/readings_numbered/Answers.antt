use Rattle.std.proofs.Common.{subst}
use Rattle.std.specs.Prelude.{IfOk}
use Rattle.office_core.specs.Offices.{Shows, readings_at}
use Rattle.office_core.proofs.office.Office.readings_numbered.Goals as goal

pub returns-clause-value : goal.returns-clause-value
returns-clause-value g c clean before stands =
    subst (λ o. IfOk c.readings_at.result (Shows (readings_at before o c.args.from c.args.to)))
    (c.point_numbered-known.ensures before stands) (c.readings_at.ensures.value clean before stands)
