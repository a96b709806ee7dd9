use Rattle.std.proofs.Common.{◌<◌, ◌∙◌, arith}
use Rattle.std.proofs.lemmas.Result.{err_from_is_err_and}
use Rattle.sunspec.specs.Chains.{IsNoEnd}
use Rattle.sunspec.proofs.Walked.{stopped_long, stopped_there}
use Rattle.sunspec.proofs.discovery.model_at.Goals as goal

pub returns-in_err-id-clause-refused : goal.returns-in_err-id-clause-refused
returns-in_err-id-clause-refused g c known e =
    let p = err_from_is_err_and c.from_residual.result c.from_residual.ensures.1 in
    rw (p.1, p.2) (stopped_there known c.args.address c.args.before c.in_err-id.field-0.0 (c.in_err-id.ensures.refused known e))

pub returns-in_err-length-clause-refused : goal.returns-in_err-length-clause-refused
returns-in_err-length-clause-refused g c known e =
    let p = err_from_is_err_and c.from_residual-in_err-length.result c.from_residual-in_err-length.ensures.1 in
    let begins : IsNoEnd known c.args.address = (c.in_ok-id.id, c.in_ok-id.ensures.word known e, c.if-id.false) in
    let few : c.args.before < 256 = omega (arith, c.if-before-ge-MOST.false) in
    rw (p.1, p.2)
    (stopped_long known c.args.address c.args.before c.in_err-length.field-0.0 begins few (c.in_err-length.ensures.refused known (c.in_ok-id.ensures.same ∙ e)))
