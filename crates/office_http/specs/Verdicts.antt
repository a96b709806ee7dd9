-- What a verdict says of the bytes so far.
use Rattle.std.specs.Prelude.{◌<◌, ◌≤◌, ℕ, List, length}
use Rattle.office_http.specs.declared.asked.Asked.TheVariants.{Awaits}
use Rattle.office_http.specs.declared.heard.Refusal.TheVariants.{BadRequest}
use Rattle.office_http.specs.declared.routes.Routes.{Routes}
use Rattle.office_http.specs.declared.verdict.Verdict.{Verdict}
use Rattle.office_http.specs.declared.verdict.Verdict.TheVariants as verdict
use Rattle.office_http.specs.Awaiting.{Asks, asked_with}
use Rattle.office_http.specs.Deciding.{Decides}
use Rattle.office_http.specs.Head.{BeginsWithHead}
use Rattle.office_http.specs.Heard.{meaning_of}
use Rattle.office_http.specs.Meanings.{refused}

abbrev pub IsJudged : Routes → List ℕ → Verdict → Type 0
IsJudged routes input verdict.Partial = (length input < 8192) × (BeginsWithHead input → ⊥)
IsJudged routes input verdict.Refused = Decides routes input (refused BadRequest) × (BeginsWithHead input → ⊥)
IsJudged routes input (verdict.Known heard) = Decides routes input (meaning_of heard) × BeginsWithHead input
IsJudged routes input (verdict.Awaits start awaited) = (start ≤ 8192) × Asks routes input start (asked_with (Awaits awaited))
