use Rattle.std.proofs.Common.{codes}
use Rattle.office_http.proofs.OnePlace.{no_slots}
use Rattle.office_http.proofs.place.range.Goals as goal

pub returns-in_default-clause-none : goal.returns-in_default-clause-none
returns-in_default-clause-none c =
    no_slots c.args.target.now (codes "/points/") c.args.second.now c.in_ok-point.point.now c.in_ok-point.slots.now c.in_ok-point.ensures.some.0 c.in_ok-point.ensures.some.1 c.in_default.ensures.none
