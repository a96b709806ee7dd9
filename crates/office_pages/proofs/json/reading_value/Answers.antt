use Rattle.std.specs.Prelude.{option_map, string_bytes}
use Rattle.std.proofs.lemmas.Result.{IfOk-weaker}
use Rattle.serde_json.specs.View.{view}
use Rattle.office_pages.proofs.Rows.{reading_is}
use Rattle.office_pages.proofs.json.reading_value.Goals as goal

pub returns : goal.returns
returns c = λ fits.
    IfOk-weaker c.reading_of.result _ _
    (λ value made. reading_is c.args.slots c.args.point.now c.args.shown.now c.beginning.result (option_map string_bytes c.in_ok-time.time) c.as_slice.result.now
    (option_map string_bytes c.in_ok-text.text) (view c.in_ok-time-2.time) (view c.in_ok-value.value) (view value)
    c.beginning.ensures c.in_ok-time.ensures c.in_ok-time-2.ensures c.as_slice.ensures.value c.in_ok-text.ensures c.in_ok-value.ensures fits made)
    c.reading_of.ensures
