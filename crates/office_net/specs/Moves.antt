-- What a round does, move by move, the newest first; and what that comes to.
use Rattle.std.specs.Prelude.{◌≡◌, ◌⊎◌, ℕ, zero, suc, ◌+◌, ◌<◌, Bool, true, false, if◌then◌else◌, List, [], ◌∷◌, ◌++◌, length, Option, Some, None, is_some, ⊤}
use Rattle.mb_mbap.specs.declared.frame.Frame.{Frame}
use Rattle.poll_book.specs.declared.rows.Setting.{Setting}
use Rattle.poll_book.specs.Orders.{oldest_waiting}
use Rattle.poll_book.specs.Tables.{Tables}
use Rattle.office_core.specs.declared.event.Arrival.TheVariants.{Recorded, Excepted}
use Rattle.office_core.specs.declared.event.EventAnswer.{EventAnswer}
use Rattle.office_core.specs.declared.event.EventAnswer.TheVariants as answer
use Rattle.office_core.specs.History.{Happening, Ask, Send, History, points, settings, tables, asked, is_answered}
use Rattle.office_core.specs.Answers.{answer_of}
use Rattle.office_core.specs.Lacking.{lacks}
use Rattle.office_core.specs.Leavings.{LeftAfter}
use Rattle.office_core.specs.Messages.{arriving}
use Rattle.office_net.specs.declared.job.LineJob.{LineJob}
use Rattle.office_net.specs.declared.job.LineJob.TheVariants.{Order, Read}

-- how a round starts: over which connection, for which slot, how many of its queries may wait, with which jobs in their order, and
-- after which history
pub record Start : Type 0 where
  pub conn : ℕ
  pub slot : ℕ
  pub most : ℕ
  pub jobs : List LineJob
  pub before : History

-- a job's turn, at which it makes a query or is passed over; or a frame that comes
pub data Move : Type 0 where
  Asks : (job : LineJob) → Move
  Passes : (job : LineJob) → Move
  Comes : (frame : Frame) → Move

-- ---- a job at its turn

-- the oldest order that waits on a device
abbrev pub next_order : History → List ℕ → Option (ℕ × Setting)
next_order now device = oldest_waiting (points now) device (settings now)

abbrev pub number_of : Option (ℕ × Setting) → ℕ
number_of None = 0
number_of (Some row) = row.0

-- an order waits on the device, or some point of the read has no reading in the slot
abbrev pub is_due : ℕ → History → LineJob → Bool
is_due slot now (Order device) = is_some (next_order now device)
is_due slot now (Read device read) = lacks now device slot read

-- the oldest order that waits is sent, or the read is asked
abbrev pub turn_of : ℕ → ℕ → History → LineJob → Happening
turn_of conn slot now (Order device) = Send conn (number_of (next_order now device))
turn_of conn slot now (Read device read) = Ask conn device slot read

-- ---- what happened

-- the history as the moves leave it. A frame is told as what it is: a reply to the query that it answers, or noise
abbrev pub told : Start → List Move → History
told start [] = start.before
told start (Asks job ∷ moves) = turn_of start.conn start.slot (told start moves) job ∷ told start moves
told start (Passes job ∷ moves) = told start moves
told start (Comes frame ∷ moves) = arriving (told start moves) start.conn frame ∷ told start moves

-- what is answered to a job's query, and to a frame
abbrev pub turn_answer : Start → List Move → LineJob → EventAnswer
turn_answer start moves job = answer_of (told start moves) (turn_of start.conn start.slot (told start moves) job)

abbrev pub frame_answer : Start → List Move → Frame → EventAnswer
frame_answer start moves frame = answer_of (told start moves) (arriving (told start moves) start.conn frame)

-- ---- what the moves are made of, in order

-- the jobs that had their turn
abbrev pub jobs_in : List Move → List LineJob
jobs_in [] = []
jobs_in (Asks job ∷ moves) = jobs_in moves ++ job ∷ []
jobs_in (Passes job ∷ moves) = jobs_in moves ++ job ∷ []
jobs_in (Comes frame ∷ moves) = jobs_in moves

-- the frames that came
abbrev pub frames_in : List Move → List Frame
frames_in [] = []
frames_in (Asks job ∷ moves) = frames_in moves
frames_in (Passes job ∷ moves) = frames_in moves
frames_in (Comes frame ∷ moves) = frames_in moves ++ frame ∷ []

-- how many queries were made
abbrev pub asks_in : List Move → ℕ
asks_in [] = 0
asks_in (Asks job ∷ moves) = suc (asks_in moves)
asks_in (Passes job ∷ moves) = asks_in moves
asks_in (Comes frame ∷ moves) = asks_in moves

-- the query that is answered, if it is one
abbrev pub query_in : EventAnswer → List Frame
query_in (answer.Query frame) = frame ∷ []
query_in _ = []

abbrev pub is_query : EventAnswer → Bool
is_query (answer.Query frame) = true
is_query _ = false

-- the queries
abbrev pub queries_in : Start → List Move → List Frame
queries_in start [] = []
queries_in start (Asks job ∷ moves) = queries_in start moves ++ query_in (turn_answer start moves job)
queries_in start (Passes job ∷ moves) = queries_in start moves
queries_in start (Comes frame ∷ moves) = queries_in start moves

-- ---- which queries are unsettled

-- how many of so many queries of a connection, from a number on, aren't answered
abbrev pub unanswered : History → ℕ → ℕ → ℕ → ℕ
unanswered now conn from zero = 0
unanswered now conn from (suc count) = unanswered now conn from count + (if is_answered now conn (from + count) then 0 else 1)

-- how many of the round's queries aren't
abbrev pub waiting_in : Start → List Move → ℕ
waiting_in start moves = unanswered (told start moves) start.conn (length (asked start.before start.conn)) (asks_in moves)

-- ---- the moves are a round's

-- no query can be made: each job had its turn, or as many queries wait as may
abbrev pub HasToWait : Start → List Move → Type 0
HasToWait start moves = (jobs_in moves ≡ start.jobs) ⊎ (waiting_in start moves ≡ start.most)

-- Each job is judged at its turn: where it is due it makes a query, while fewer wait than may, and else it is passed over.
-- A frame is waited for only where no query can be made
abbrev pub IsRun : Start → List Move → Type 0
IsRun start [] = ⊤
IsRun start (Asks job ∷ moves) =
    (is_due start.slot (told start moves) job ≡ true) × (is_query (turn_answer start moves job) ≡ true)
    × (waiting_in start moves < start.most) × IsRun start moves
IsRun start (Passes job ∷ moves) = (is_due start.slot (told start moves) job ≡ false) × IsRun start moves
IsRun start (Comes frame ∷ moves) = HasToWait start moves × IsRun start moves

-- ---- what the answers count

abbrev pub recorded_by : EventAnswer → ℕ
recorded_by (answer.Arrived (Recorded count)) = count
recorded_by _ = 0

abbrev pub excepted_by : EventAnswer → ℕ
excepted_by (answer.Arrived (Excepted code)) = 1
excepted_by _ = 0

abbrev pub refused_by : EventAnswer → ℕ
refused_by (answer.Refused fault) = 1
refused_by _ = 0

-- the sum of a count over the answers to the frames that came
abbrev pub sum_in : (EventAnswer → ℕ) → Start → List Move → ℕ
sum_in count start [] = 0
sum_in count start (Asks job ∷ moves) = sum_in count start moves
sum_in count start (Passes job ∷ moves) = sum_in count start moves
sum_in count start (Comes frame ∷ moves) = sum_in count start moves + count (frame_answer start moves frame)

-- ---- what a crash leaves

-- what a crash may leave after the moves, from what it might leave as the round began
abbrev pub LeftIn : (Tables → Type 0) → Start → List Move → Tables → Type 0
LeftIn may start [] = may
LeftIn may start (Asks job ∷ moves) = LeftAfter (LeftIn may start moves) (tables (told start moves)) (tables (told start (Asks job ∷ moves))) false
LeftIn may start (Passes job ∷ moves) = LeftIn may start moves
LeftIn may start (Comes frame ∷ moves) = LeftAfter (LeftIn may start moves) (tables (told start moves)) (tables (told start (Comes frame ∷ moves))) false

-- and after one move more that was refused, if one was
abbrev pub LeftTrying : (Tables → Type 0) → Start → List Move → Option Move → Tables → Type 0
LeftTrying may start moves None = may
LeftTrying may start moves (Some move) = LeftAfter may (tables (told start moves)) (tables (told start (move ∷ moves))) true
