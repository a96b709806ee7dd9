use Rattle.std.proofs.Common.{◌≡◌, ◌∙◌, refl, ◌∷◌, [], true, rules, arith, sym}
use Rattle.std.proofs.lemmas.List.Folds.{list_all-append}
use Rattle.std.proofs.lemmas.Result.{err_from_is_err_and}
use Rattle.std.specs.Result.{is_ok}
use Rattle.mb_map.specs.Queue.{is_sound}
use Rattle.mb_map.specs.Image.{step_in}
use Rattle.toml_members.proofs.Each.{each_more, each_fails, each_ends}
use Rattle.toml_members.proofs.Options.{none_or, some_or}
use Rattle.mb_map.proofs.image.script_in.Goals as goal

pub returns-in_err-step-clause-gives : goal.returns-in_err-step-clause-gives
returns-in_err-step-clause-gives c =
    let vs = c.args.entries.now in
    let i = c.loop-index.index in
    let entry = c.index-entries-index.result in
    let p = err_from_is_err_and c.from_residual.result c.from_residual.ensures.1 in
    let none = none_or c.step_in.result _ c.in_err-step.field-0.0 c.in_err-step.ensures.value in
    rw (p.1, p.2, none.1) (sym c.loop-index.invariant.read ∙ each_fails step_in c.loop-index.script.items vs i entry (omega arith) c.index-entries-index.is (sym c.step_in.ensures.gives ∙ none.0))

pub loop-index-preserved : goal.loop-index-preserved
loop-index-preserved c =
    let vs = c.args.entries.now in
    let i = c.loop-index.index in
    let entry = c.index-entries-index.result in
    let good : is_ok c.push.result ≡ true = search rules in
    let items = rw good at c.push.ensures.items in
    let some = some_or c.step_in.result _ c.in_ok-step.step c.in_ok-step.ensures.value in
    let sound = rw some at c.step_in.ensures.sound in
    let more = each_more step_in c.loop-index.script.items vs i entry c.in_ok-step.step (omega arith) c.index-entries-index.is (sym c.step_in.ensures.gives ∙ some) in
    rw items (record { read = sym more ∙ c.loop-index.invariant.read; sound = list_all-append is_sound c.loop-index.script.items (c.in_ok-step.step ∷ []) ∙ rw (c.loop-index.invariant.sound, sound) refl })

pub returns-clause-gives : goal.returns-clause-gives
returns-clause-gives c = sym c.loop-index.invariant.read ∙ each_ends step_in c.loop-index.script.items c.args.entries.now c.loop-index.index (omega arith)
