-- How a caller's place stands.
use Rattle.std.specs.Prelude.{ℕ, List, Option, Some, None}
use Rattle.office_http.specs.Exchanges.{bytes_of}
use Rattle.run_callers.specs.declared.caller.Caller.{Caller}
use Rattle.run_callers.specs.declared.caller.Mood.{Mood}
use Rattle.run_callers.specs.declared.caller.Mood.TheVariants as mood
use Rattle.run_callers.specs.declared.place.Place.{Place}
use Rattle.run_callers.specs.declared.showing.Showing.{Showing}
use Rattle.run_callers.specs.Sessions.{Answering, Closing, Free, Hearing, Session}

abbrev pub session_in : Mood → List ℕ → Option Showing → List ℕ → Session
session_in mood.Hearing heard next left = Hearing heard
session_in mood.Answering heard next left = Answering next left
session_in mood.Closing heard next left = Closing

abbrev pub session_of : Caller → Session
session_of caller = session_in caller.mood (bytes_of caller.exchange) caller.showing caller.out

abbrev pub session_with : Option Caller → Session
session_with None = Free
session_with (Some caller) = session_of caller

-- the number of a place
abbrev pub at_of : Place → ℕ
at_of place = place.at

-- the pass in which it did something last
abbrev pub served_in : Place → ℕ
served_in place = place.served

abbrev pub session_at : Place → Session
session_at place = session_with place.caller
