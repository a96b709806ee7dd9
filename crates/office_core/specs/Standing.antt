-- How an office stands for a history, and what it sees of one.
use Rattle.std.specs.Prelude.{◌≡◌, ℕ, ◌+◌, Bool, true, false, not, if◌then◌else◌, List, [], ◌∷◌, length, Option, Some, None, option_map, slice_get, ⊤}
use Rattle.point_list.specs.Edition.{Second}
use Rattle.point_list.specs.declared.site.Site.{Site}
use Rattle.poll_match.specs.declared.asked.Matched.{Matched}
use Rattle.poll_match.specs.Window.{Open as OpenOne, Changes, IsLeastOf, closed, held, last_of, line_of}
use Rattle.poll_book.specs.declared.rows.PointRow.{PointRow}
use Rattle.poll_book.specs.Tables.{Tables}
use Rattle.office_core.specs.Errors.{is_of_store}
use Rattle.office_core.specs.declared.event.Event.{Event}
use Rattle.office_core.specs.declared.event.Event.TheVariants as event
use Rattle.office_core.specs.declared.event.EventAnswer.{EventAnswer}
use Rattle.office_core.specs.declared.event.EventAnswer.TheVariants as answer
use Rattle.office_core.specs.declared.event.RequestAnswer.TheVariants.{Kept, KeyReused}
use Rattle.office_core.specs.Queries.{Query, asked_of}
use Rattle.office_core.specs.History.{Happening, Restart, Load, Order, Void, Open, Ask, Send, Reply, Noise, History, after, tables, site_of, points, open_line, asked, is_answered}
use Rattle.office_core.specs.Answers.{answer_of, answers_of, reply_frame}
use Rattle.office_core.specs.Legal.{MayHappen, Legal}

-- ---- what the matcher knows

-- the queries from this number on, each with whether it was answered
abbrev pub queries_from : History → ℕ → ℕ → List Query → List Matched
queries_from before conn n [] = []
queries_from before conn n (q ∷ qs) =
    record { asked = asked_of q; settled = is_answered before conn n } ∷ queries_from before conn (n + 1) qs

abbrev pub queries : History → ℕ → List Matched
queries before conn = queries_from before conn 0 (asked before conn)

-- a connection of this line that made these queries
abbrev pub open_one : ℕ → List Matched → ℕ → OpenOne
open_one conn all line = record { number = conn; line = line; made = length all; last = last_of all }

-- what is known of a connection: its line if it is open, how many queries it made, and of each of the
-- last 65,536 what was asked and whether it was answered
abbrev pub open_of : History → ℕ → Option OpenOne
open_of before conn = option_map (open_one conn (queries before conn)) (open_line before conn)

-- ---- standing for a history

-- a keeper that holds the history's tables, its site, a copy of its points, and its open connections
pub record StandsFor (holds : Tables → Type 0) (now : Site) (known : List PointRow) (all : List OpenOne) (before : History) : Type 0 where
  pub tables : holds (tables before)
  pub site : now ≡ site_of before
  pub points : known ≡ points before
  pub connections : (conn : ℕ) → held conn all ≡ open_of before conn

-- ---- what the office sees of what happens, in which lists are of the second edition

abbrev pub Sees : History → Happening → Event → Type 0
Sees before (Restart site) event.Restart = site ≡ site_of before
Sees before (Load edition caller key list) (event.Load c k seen) = (c ≡ caller) × (k ≡ key) × (seen ≡ list) × (Second ≡ edition)
Sees before (Order caller key point value) (event.Order c k p v) = (c ≡ caller) × (k ≡ key) × (p ≡ point) × (v ≡ value)
Sees before (Void caller key point slot) (event.Void c k p s) = (c ≡ caller) × (k ≡ key) × (p ≡ point) × (s ≡ slot)
Sees before (Open line) (event.Open seen) = seen ≡ line
Sees before (Ask c device slot read) (event.Ask conn name s r) = (conn ≡ c) × (name ≡ device) × (s ≡ slot) × (r ≡ read)
Sees before (Send c number) (event.Send conn n) = (conn ≡ c) × (n ≡ number)
Sees before (Reply c n unit) (event.Arrive conn frame) = (conn ≡ c) × (frame ≡ reply_frame n (slice_get (asked before c) n) unit)
Sees before (Noise c noise) (event.Arrive conn frame) = (conn ≡ c) × (frame ≡ noise)
Sees before happening seen = ⊥

-- the events are what the office sees of what happens from there on
abbrev pub SeesAll : History → List Happening → List Event → Type 0
SeesAll before [] [] = ⊤
SeesAll before (happening ∷ rest) (seen ∷ more) = Sees before happening seen × SeesAll (happening ∷ before) rest more
SeesAll before [] (seen ∷ more) = ⊥
SeesAll before (happening ∷ rest) [] = ⊥

-- ---- the former connection of a line

-- what a matcher answers for the open connection of a line
abbrev pub IsFormer : ℕ → List OpenOne → Option ℕ → Type 0
IsFormer line all None = (conn : ℕ) → line_of (held conn all) ≡ Some line → ⊥
IsFormer line all (Some former) = IsLeastOf line all former

abbrev pub Closes : Option ℕ → List OpenOne → List OpenOne → Type 0
Closes None old new = new ≡ old
Closes (Some former) old new = Changes former closed old new

-- ---- one event, which is refused by the store or happens

abbrev pub is_store : EventAnswer → Bool
is_store (answer.Refused e) = is_of_store e
is_store _ = false

-- an answer after which nothing has changed: a refusal, or that of a request whose key was used
abbrev pub is_refusal : EventAnswer → Bool
is_refusal (answer.Refused fault) = true
is_refusal (answer.Request (Kept first outcome)) = not first
is_refusal (answer.Request KeyReused) = true
is_refusal _ = false

-- the events that the store didn't refuse, and their answers
abbrev pub taken : List Event → List EventAnswer → List Event
taken [] told = []
taken (seen ∷ more) [] = []
taken (seen ∷ more) (a ∷ told) = if is_store a then taken more told else seen ∷ taken more told

abbrev pub heard : List EventAnswer → List EventAnswer
heard [] = []
heard (a ∷ told) = if is_store a then heard told else a ∷ heard told

-- An event that the store refuses didn't happen. Else it is what happened, and is answered so
pub record Goes (old new : History → Type 0) (seen : Event) (told : EventAnswer) : Type 0 where
  pub refused : (before : History) → old before → is_store told ≡ true → new before
  pub happened : (before : History) (happening : Happening) → old before → MayHappen before happening → Sees before happening seen → is_store told ≡ false
      → new (happening ∷ before) × (told ≡ answer_of before happening)

-- Whatever the office stood for, and whatever it sees as the events that the store didn't refuse: where that is legal,
-- the office stands for the one followed by the other, and the answers are those to it
abbrev pub Runs : (History → Type 0) → (History → Type 0) → List Event → List EventAnswer → Type 0
Runs old new events told =
    (before : History) (rest : List Happening) → old before → SeesAll before rest (taken events told) → Legal (after before rest)
    → new (after before rest) × (heard told ≡ answers_of before rest)
