use Rattle.std.proofs.Common.{◌++◌, ap, ◌∙◌}
use Rattle.std.specs.Prelude.{string_bytes}
use Rattle.std.proofs.lemmas.Result.{on_ok_weaker}
use Rattle.serde_json.specs.View.{view}
use Rattle.serde_json.specs.Written.{compact_text, has_float}
use Rattle.office_pages.proofs.Rows.{no_float}
use Rattle.office_pages.proofs.json.push_point.Goals as goal

pub returns : goal.returns
returns c = λ fits.
    let last = c.in_ok-last.ensures fits in
    let plain = ap has_float c.in_ok-row.ensures ∙ no_float c.args.slots c.args.seen.now (view c.in_ok-last.last) last in
    on_ok_weaker c.push_value.result
    (λ grown. (view c.in_ok-last.last, last, grown ∙ ap (λ row. string_bytes c.args.out.now ++ compact_text row) c.in_ok-row.ensures))
    (c.push_value.ensures plain)
