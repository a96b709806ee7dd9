use Rattle.std.proofs.Common.{◌∙◌, ◌++◌, ap}
use Rattle.office_http.proofs.OnePlace.{no_parts, no_slash}
use Rattle.office_http.proofs.place.parts.Goals as goal

pub returns-in_default-clause-none : goal.returns-in_default-clause-none
returns-in_default-clause-none c = λ a b e plain. no_slash c.args.target.now c.args.front.now c.in_ok-rest.rest.now c.in_ok-rest.ensures.some c.in_default.ensures.none c.args.second.now a b e

pub returns-in_default-behind-clause-none : goal.returns-in_default-behind-clause-none
returns-in_default-behind-clause-none c =
    let whole = c.in_ok-rest.ensures.some ∙ ap (λ r. c.args.front.now ++ r) c.in-Some.ensures.some.0 in
    no_parts c.args.target.now c.args.front.now c.args.second.now c.in-Some.first.now c.in-Some.more.now whole c.in-Some.ensures.some.1 c.in_default-behind.ensures.none
