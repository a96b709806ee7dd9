use Rattle.std.proofs.Common.{◌∙◌}
use Rattle.office_core.specs.History.{kept_readings, points, readings, tables, voids}
use Rattle.office_core.specs.Lacking.{some_lacks}
use Rattle.office_core.proofs.Marks.{lacks_marked}
use Rattle.office_core.proofs.office.Office.lacks.Goals as goal

pub returns-clause-value : goal.returns-clause-value
returns-clause-value g c clean before stands =
    c.in_ok-some_lacks.ensures.value clean (tables before) stands.tables
    ∙ (λ i. some_lacks ((c.deref.ensures.value ∙ stands.points) i) (kept_readings before) (c.as_bytes.ensures.value i) c.args.slot c.args.read.now)
    ∙ lacks_marked (voids before) (points before) (readings before) c.args.device.now c.args.slot c.args.read.now
