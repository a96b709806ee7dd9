use Rattle.std.proofs.Common.{Some, sym, subst}
use Rattle.office_core.specs.History.{tables}
use Rattle.office_core.specs.Offices.{Shows, readings_at}
use Rattle.office_core.proofs.office.Office.readings_at.Goals as goal

pub returns-clause-value : goal.returns-clause-value
returns-clause-value g c clean before stands =
    subst (λ o. Shows (readings_at before o c.args.from c.args.to) (Some c.in_ok-readings.field-0)) (sym c.in-Some.is)
    (c.in_ok-readings.ensures.value clean (tables before) stands.tables)
