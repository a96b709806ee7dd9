use Rattle.std.proofs.Common.{◌≡◌, ◌∙◌, sym, ap, subst, length}
use Rattle.std.specs.Prelude.{List, Ok}
use Rattle.point_list.specs.Edition.{Second}
use Rattle.point_list.specs.Lists.{records_of}
use Rattle.point_list.specs.Resolving.{ArePointsOf, list_at}
use Rattle.point_list.specs.declared.point.ListRow.{ListRow}
use Rattle.office_core.specs.Loads as loads
use Rattle.office_core.proofs.Loading.{ok_so, refused_so}
use Rattle.office_core.proofs.loads.judge_list.Goals as goal

pub returns-in-Ok-clause-outcome : goal.returns-in-Ok-clause-outcome
returns-in-Ok-clause-outcome c =
    let known = c.args.known.now in
    let is = c.in-Ok.ensures.points in
    ok_so c.judge_points.result
    (λ x. (rows : List ListRow) → ArePointsOf rows c.as_slice.result.now → x.outcome ≡ loads.outcome (loads.loading_of known (Ok rows)))
    (λ x. x.outcome ≡ loads.outcome (loads.loading Second c.args.site.now known c.args.list.now)) c.judge_points.ensures.outcome
    (λ x told. told is.0 (subst (ArePointsOf is.0) (sym c.as_slice.ensures.value) is.2) ∙ ap (λ m. loads.outcome (loads.loading_of known m)) (sym is.1))

pub returns-in-Ok-clause-added : goal.returns-in-Ok-clause-added
returns-in-Ok-clause-added c =
    let known = c.args.known.now in
    let is = c.in-Ok.ensures.points in
    ok_so c.judge_points.result
    (λ x. (rows : List ListRow) → ArePointsOf rows c.as_slice.result.now → x.points.items ≡ loads.added (length known) (loads.loading_of known (Ok rows)))
    (λ x. x.points.items ≡ loads.added (length known) (loads.loading Second c.args.site.now known c.args.list.now)) c.judge_points.ensures.added
    (λ x told. told is.0 (subst (ArePointsOf is.0) (sym c.as_slice.ensures.value) is.2) ∙ ap (λ m. loads.added (length known) (loads.loading_of known m)) (sym is.1))

pub returns-in-Err-clause-outcome : goal.returns-in-Err-clause-outcome
returns-in-Err-clause-outcome c =
    refused_so (list_at Second c.args.site.now (records_of c.args.list.now)) c.in-Err.error c.in-Err.ensures.fault c.judge_fault.result c.judge_fault.ensures.fault
    (λ m x. x.outcome ≡ loads.outcome (loads.loading_of c.args.known.now m)) c.judge_fault.ensures.outcome

pub returns-in-Err-clause-added : goal.returns-in-Err-clause-added
returns-in-Err-clause-added c =
    refused_so (list_at Second c.args.site.now (records_of c.args.list.now)) c.in-Err.error c.in-Err.ensures.fault c.judge_fault.result c.judge_fault.ensures.fault
    (λ m x. x.points.items ≡ loads.added (length c.args.known.now) (loads.loading_of c.args.known.now m)) c.judge_fault.ensures.added
