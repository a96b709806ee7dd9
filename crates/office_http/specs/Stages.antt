-- What is known of the bytes of a connection so far.
use Rattle.std.specs.Prelude.{◌≤◌, ⊤, ℕ, List}
use Rattle.office_http.specs.declared.asked.Asked.TheVariants.{Awaits}
use Rattle.office_http.specs.declared.routes.Routes.{Routes}
use Rattle.office_http.specs.declared.stage.Stage.{Stage}
use Rattle.office_http.specs.declared.stage.Stage.TheVariants.{Headless, Headed, InBody}
use Rattle.office_http.specs.Awaiting.{Asks, asked_with}
use Rattle.office_http.specs.Head.{BeginsWithHead}

-- how far a request came
abbrev pub IsAt : Routes → List ℕ → Stage → Type 0
IsAt routes input Headless = BeginsWithHead input → ⊥
IsAt routes input Headed = BeginsWithHead input
IsAt routes input (InBody start awaited) = (start ≤ 8192) × Asks routes input start (asked_with (Awaits awaited))

-- what holds of it as more bytes come
abbrev pub IsPast : Routes → List ℕ → Stage → Type 0
IsPast routes input Headless = ⊤
IsPast routes input Headed = ⊤
IsPast routes input (InBody start awaited) = IsAt routes input (InBody start awaited)
