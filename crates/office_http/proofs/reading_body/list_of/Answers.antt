use Rattle.std.proofs.Common.{◌≡◌, ◌∙◌, ap, map, rules}
use Rattle.serde_json.specs.Data.{array}
use Rattle.serde_json.specs.View.{items_of, view}
use Rattle.serde_json.specs.declared.value.Value.{the_lemmas}
use Rattle.serde_json.specs.declared.value.Value.TheVariants.{Array}
use Rattle.office_http.specs.Answers.{reading_data}
use Rattle.office_http.specs.Shown.{shown}
use Rattle.office_http.proofs.Readings.{mapped}
use Rattle.office_http.proofs.reading_body.list_of.Goals as goal

pub returns : goal.returns
returns c =
    let seen : view (Array c.in_ok-items.items) ≡ array (items_of (map view c.in_ok-items.items.items)) = search (rules, the_lemmas) in
    seen ∙ ap (λ l. array (items_of l)) (c.in_ok-items.ensures ∙ mapped reading_data shown c.args.readings.now)
