-- What a head asks for, whatever bytes stand behind it.
use Rattle.std.specs.Prelude.{◌≤◌, ℕ, List, length, drop, Option, Some}
use Rattle.httparse.specs.Grammar.{RequestHead}
use Rattle.office_http.specs.declared.asked.Asked.{Asked as Head}
use Rattle.office_http.specs.declared.asked.Asked.TheVariants.{Known, Awaits}
use Rattle.office_http.specs.declared.asked.Awaited.{Awaited}
use Rattle.office_http.specs.declared.asked.Purpose.{Purpose}
use Rattle.office_http.specs.declared.asked.Purpose.TheVariants as purpose
use Rattle.office_http.specs.declared.fields.Length.TheVariants.{Of}
use Rattle.office_http.specs.declared.routes.Routes.{Routes}
use Rattle.office_http.specs.Head.{HasHead}
use Rattle.office_http.specs.Heads.{IsAsked}
use Rattle.office_http.specs.Heard.{meaning_of}
use Rattle.office_http.specs.Meanings.{Meaning, load, ordered, voided, with_body}
use Rattle.office_http.specs.Orders.{order_of}
use Rattle.office_http.specs.Voids.{void_of}

-- what a whole body asks for under a caller's key
abbrev pub made_for : Purpose → List ℕ → List ℕ → List ℕ → Meaning
made_for purpose.List caller key body = load caller key body
made_for purpose.Order caller key body = ordered caller key (order_of body)
made_for purpose.Void caller key body = voided caller key (void_of body)

abbrev pub made_by : Awaited → List ℕ → Meaning
made_by awaited body = made_for awaited.purpose awaited.caller awaited.key body

-- what is asked for with these bytes behind the head; none while bytes of its body lack
abbrev pub asked_with : Head → List ℕ → Option Meaning
asked_with (Known heard) rest = Some (meaning_of heard)
asked_with (Awaits awaited) rest = with_body (made_by awaited) rest (Of awaited.count)

-- the bytes begin with a head of so many bytes, within the limits, which asks for that of these routes with the bytes behind it
pub record Asks (routes : Routes) (input : List ℕ) (len : ℕ) (asked : List ℕ → Option Meaning) : Type 0 where
  pub inside : len ≤ length input
  pub head : RequestHead
  pub has : HasHead input head (drop len input)
  pub asks : (rest : List ℕ) → IsAsked routes head rest (asked rest)
