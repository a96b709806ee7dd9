-- What a head asks for.
use Rattle.std.specs.Prelude.{◌≡◌, ℕ, List, map, Option}
use Rattle.httparse.specs.Grammar.{RequestHead}
use Rattle.httparse.specs.Spans.{name_and_value}
use Rattle.office_http.specs.declared.routes.Routes.{Routes}
use Rattle.office_http.specs.Places.{Place, Names}
use Rattle.office_http.specs.Meanings.{Meaning, asked_of}

-- where these routes are offered, and with the bytes behind it, a head asks for that; for nothing yet while bytes of its body lack
pub record IsAsked (routes : Routes) (head : RequestHead) (rest : List ℕ) (asked : Option Meaning) : Type 0 where
  pub place : Option Place
  pub names : Names routes head.target place
  pub is : asked_of place head.method (map name_and_value head.fields) rest ≡ asked
