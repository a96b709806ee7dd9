-- How far a request came, as more bytes do.
use Rattle.std.proofs.Common.{◌≡◌, List, ℕ, ◌++◌, subst}
use Rattle.office_http.specs.declared.asked.Asked.TheVariants.{Awaits}
use Rattle.office_http.specs.declared.routes.Routes.{Routes}
use Rattle.office_http.specs.declared.stage.Stage.{Stage}
use Rattle.office_http.specs.declared.stage.Stage.TheVariants.{Headless, Headed, InBody}
use Rattle.office_http.specs.declared.verdict.Verdict.{Verdict}
use Rattle.office_http.specs.Awaiting.{asked_with}
use Rattle.office_http.specs.Stages.{IsAt, IsPast}
use Rattle.office_http.specs.Verdicts.{IsJudged}
use Rattle.office_http.proofs.Reading.{asks_more}

pub past_more : (routes : Routes) (bytes piece : List ℕ) (stage : Stage) → IsAt routes bytes stage → IsPast routes (bytes ++ piece) stage
past_more routes bytes piece Headless at = tt
past_more routes bytes piece Headed at = tt
past_more routes bytes piece (InBody start awaited) at = (at.0, asks_more routes bytes start (asked_with (Awaits awaited)) at.1 piece)

pub judged_so : (routes : Routes) (input bytes : List ℕ) (verdict is : Verdict) → input ≡ bytes → verdict ≡ is → IsJudged routes input verdict → IsJudged routes bytes is
judged_so routes input bytes verdict is same so judged = subst (λ b. IsJudged routes b is) same (subst (IsJudged routes input) so judged)
