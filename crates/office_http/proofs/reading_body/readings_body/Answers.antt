use Rattle.std.proofs.Common.{◌≡◌, ◌∙◌, ap, map}
use Rattle.serde_json.specs.Data.{array}
use Rattle.serde_json.specs.View.{items_of, view}
use Rattle.serde_json.specs.Written.{compact_text, has_float}
use Rattle.office_http.specs.Answers.{listed_data, reading_data}
use Rattle.office_http.specs.Shown.{shown}
use Rattle.office_http.proofs.Readings.{no_float}
use Rattle.office_http.proofs.reading_body.readings_body.Goals as goal

pub returns : goal.returns
returns c =
    let point = c.args.point.now in
    let whole : view c.in_ok-body.body ≡ listed_data point (array (items_of (map reading_data (map shown c.args.readings.now)))) =
    c.in_ok-body.ensures ∙ ap (listed_data point) c.in_ok-list.ensures in
    let none = ap has_float whole ∙ no_float point (map shown c.args.readings.now) in
    c.in_ok-text.ensures.text none ∙ ap compact_text whole
