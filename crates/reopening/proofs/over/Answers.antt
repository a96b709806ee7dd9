use Rattle.office_core.specs.History.{tables}
use Rattle.reopening.proofs.over.Goals as goal

pub returns-in-Ok-new-clause-stands : goal.returns-in-Ok-new-clause-stands
returns-in-Ok-new-clause-stands g c clean before holds = c.in-Ok-new.ensures.stands clean before (c.in-Ok.ensures.holds (tables before) holds)

pub returns-in-Ok-new-clause-leaves : goal.returns-in-Ok-new-clause-leaves
returns-in-Ok-new-clause-leaves g c clean left may =
    let was = c.in-Ok-new.ensures.leaves clean left may in
    (was.0, c.in-Ok.ensures.kept.crash (c.in-Ok-new.ensures.clean clean) was.0 was.1, was.2)
