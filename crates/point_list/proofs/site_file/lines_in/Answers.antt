use Rattle.std.proofs.Common.{◌≡◌, ◌∙◌, true, rules, arith, sym}
use Rattle.std.proofs.lemmas.Result.{err_from_is_err_and}
use Rattle.std.specs.Result.{is_ok}
use Rattle.toml.specs.View.{items_view, view}
use Rattle.toml_members.specs.Members.{each}
use Rattle.point_list.specs.SiteFile.{line_in}
use Rattle.toml_members.proofs.Each.{each_more, each_fails, each_ends}
use Rattle.point_list.proofs.Failing.{fails_more, given_at}
use Rattle.point_list.proofs.site_file.lines_in.Goals as goal

pub returns-in_err-line : goal.returns-in_err-line
returns-in_err-line c =
    let vs = c.args.entries.now in
    let i = c.loop-index.index in
    let entry = c.index-entries-index.result in
    let p = err_from_is_err_and c.from_residual.result c.from_residual.ensures.1 in
    let given = given_at (λ x. x) _ c.line_in.result (line_in (view entry)) _ c.in_err-line.ensures c.line_in.ensures in
    rw (p.1, p.2) (fails_more c.in_err-line.field-0.0.fault (line_in (view entry)) (each line_in (items_view vs)) given
    (λ none. sym c.loop-index.invariant ∙ each_fails line_in c.loop-index.lines.items vs i entry (omega arith) c.index-entries-index.is none))

pub loop-index-preserved : goal.loop-index-preserved
loop-index-preserved c =
    let vs = c.args.entries.now in
    let i = c.loop-index.index in
    let entry = c.index-entries-index.result in
    let good : is_ok c.push.result ≡ true = search rules in
    let items = rw good at c.push.ensures.items in
    let given = given_at (λ x. x) _ c.line_in.result (line_in (view entry)) _ c.in_ok-line.ensures c.line_in.ensures in
    let more = each_more line_in c.loop-index.lines.items vs i entry c.in_ok-line.line (omega arith) c.index-entries-index.is given in
    rw items (sym more ∙ c.loop-index.invariant)

pub returns : goal.returns
returns c = sym c.loop-index.invariant ∙ each_ends line_in c.loop-index.lines.items c.args.entries.now c.loop-index.index (omega arith)
