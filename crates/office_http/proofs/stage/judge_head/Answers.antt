use Rattle.office_http.specs.declared.verdict.Verdict.TheVariants.{Awaits, Known, Refused}
use Rattle.office_http.proofs.Staging.{judged_so}
use Rattle.office_http.proofs.stage.judge_head.Goals as goal

pub returns-in-Refused-clause-asked : goal.returns-in-Refused-clause-asked
returns-in-Refused-clause-asked c =
    (judged_so c.args.routes c.deref.result.now c.args.bytes.now.items c.in_ok-verdict_of.field-0 Refused c.deref.ensures.value c.in-Refused.is c.in_ok-verdict_of.ensures).0

pub returns-in-Known-clause-asked : goal.returns-in-Known-clause-asked
returns-in-Known-clause-asked c =
    (judged_so c.args.routes c.deref.result.now c.args.bytes.now.items c.in_ok-verdict_of.field-0 (Known c.in-Known.heard) c.deref.ensures.value c.in-Known.is c.in_ok-verdict_of.ensures).0

pub returns-in_ok-heard-in-Awaits-clause-asked : goal.returns-in_ok-heard-in-Awaits-clause-asked
returns-in_ok-heard-in-Awaits-clause-asked c =
    let awaits = Awaits c.in-Awaits.start c.in-Awaits.awaited in
    let judged = judged_so c.args.routes c.deref.result.now c.args.bytes.now.items c.in_ok-verdict_of.field-0 awaits c.deref.ensures.value c.in-Awaits.is c.in_ok-verdict_of.ensures in
    c.in_ok-heard-in-Awaits.ensures.asked c.args.routes judged.1
