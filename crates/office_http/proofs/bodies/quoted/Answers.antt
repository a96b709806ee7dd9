use Rattle.std.proofs.Common.{◌≡◌, rules}
use Rattle.serde_json.specs.Data.{string}
use Rattle.serde_json.specs.View.{view}
use Rattle.serde_json.specs.declared.value.Value.{the_lemmas}
use Rattle.serde_json.proofs.OnLiterals.{serde_json_on_literals}
use Rattle.office_http.proofs.bodies.quoted.Goals as goal

pub returns : goal.returns
unfolding serde_json_on_literals
returns c =
    let built : view c.in_ok-json.field-0 ≡ string c.args.text.now = search (rules, the_lemmas) in
    search rules
