use Rattle.std.proofs.Common.{◌≡◌, ◌∙◌, true, rules, arith, sym}
use Rattle.std.proofs.lemmas.Result.{err_from_is_err_and}
use Rattle.std.specs.Result.{is_ok}
use Rattle.point_list.specs.SiteFile.{model_in}
use Rattle.toml_members.proofs.Each.{each_more, each_fails, each_ends}
use Rattle.toml_members.proofs.Options.{none_or, some_or}
use Rattle.point_list.proofs.site_file.models_in.Goals as goal

pub returns-in_err-model : goal.returns-in_err-model
returns-in_err-model c =
    let vs = c.args.entries.now in
    let i = c.loop-index.index in
    let entry = c.index-entries-index.result in
    let p = err_from_is_err_and c.from_residual.result c.from_residual.ensures.1 in
    let none = none_or c.model_in.result _ c.in_err-model.field-0.0 c.in_err-model.ensures.value in
    rw (p.1, p.2, none.1) (sym c.loop-index.invariant ∙ each_fails model_in c.loop-index.models.items vs i entry (omega arith) c.index-entries-index.is (sym c.model_in.ensures ∙ none.0))

pub loop-index-preserved : goal.loop-index-preserved
loop-index-preserved c =
    let vs = c.args.entries.now in
    let i = c.loop-index.index in
    let entry = c.index-entries-index.result in
    let good : is_ok c.push.result ≡ true = search rules in
    let items = rw good at c.push.ensures.items in
    let some = some_or c.model_in.result _ c.in_ok-model.model c.in_ok-model.ensures.value in
    let more = each_more model_in c.loop-index.models.items vs i entry c.in_ok-model.model (omega arith) c.index-entries-index.is (sym c.model_in.ensures ∙ some) in
    rw items (sym more ∙ c.loop-index.invariant)

pub returns : goal.returns
returns c = sym c.loop-index.invariant ∙ each_ends model_in c.loop-index.models.items c.args.entries.now c.loop-index.index (omega arith)
