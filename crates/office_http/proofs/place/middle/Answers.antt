use Rattle.office_http.proofs.OnePlace.{no_back}
use Rattle.office_http.proofs.place.middle.Goals as goal

pub returns-in_default-clause-none : goal.returns-in_default-clause-none
returns-in_default-clause-none c = no_back c.args.target.now c.args.front.now c.in_ok-rest.rest.now c.args.back.now c.in_ok-rest.ensures.some c.in_default.ensures.none
