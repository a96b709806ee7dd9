use Rattle.std.proofs.Common.{◌≡◌, codes, rules}
use Rattle.serde_json.specs.Data.{number, unsigned, string, object, member, no_members}
use Rattle.serde_json.specs.View.{view}
use Rattle.serde_json.specs.declared.value.Value.{the_lemmas}
use Rattle.serde_json.proofs.OnLiterals.{serde_json_on_literals}
use Rattle.office_http.proofs.bodies.void_body.Goals as goal

pub returns : goal.returns
unfolding serde_json_on_literals
returns c =
    let built : view c.in_ok-json.field-0 ≡ object (member (codes "point") (string c.args.point.now) (member (codes "slot") (number (unsigned c.args.slot)) no_members)) =
    search (rules, the_lemmas) in
    search rules
