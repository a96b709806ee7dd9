-- Where a round stands, and how a call leads it on.
use Rattle.std.specs.Prelude.{◌≡◌, ◌⊎◌, ℕ, ◌+◌, ◌%◌, ◌-◌, ◌<◌, Bool, false, ◌==◌, nat_lt, if◌then◌else◌, List, [], ◌∷◌, ◌++◌, All, length, take, Option, Some, None, ⊤}
use Rattle.mb_mbap.specs.declared.frame.Frame.{Frame}
use Rattle.poll_book.specs.declared.keeper.Neighbours.{Ghosts}
use Rattle.poll_book.specs.Tables.{Tables, Within}
use Rattle.office_core.specs.declared.office.Office.{Office}
use Rattle.office_core.specs.declared.event.EventAnswer.{EventAnswer}
use Rattle.office_core.specs.declared.event.EventAnswer.TheVariants as answer
use Rattle.office_core.specs.History.{History, asked, tables}
use Rattle.office_core.specs.Leavings.{LeftAfter}
use Rattle.office_net.specs.declared.round.Round.{Round}
use Rattle.office_net.specs.declared.fault.PollFault.{PollFault}
use Rattle.office_net.specs.declared.job.LineJob.{LineJob}
use Rattle.office_net.specs.declared.machine.Poll.{Poll}
use Rattle.office_net.specs.Jobs.{CanBeDone}
use Rattle.office_net.specs.Moves.{Start, Move, Asks, Passes, Comes, told, jobs_in, frames_in, asks_in, queries_in, waiting_in, IsRun, LeftTrying, sum_in, recorded_by, excepted_by, refused_by}
use Rattle.office_net.specs.Faults.{ClosedBy}
use Rattle.office_core.specs.Following.{Follows, MayLeave}

-- ---- what contracts see of a round under way

-- how many jobs wait for their turn
abbrev pub left_of : Poll → ℕ
left_of poll = length poll.jobs.items - poll.turned

abbrev pub counts_of : Poll → Round
counts_of poll = poll.round

-- how many frames came
abbrev pub taken_of : Poll → ℕ
taken_of poll = poll.taken

-- a job has its turn
pub record HasTurn (poll : Poll) : Type 0 where
  pub left : poll.turned < length poll.jobs.items
  pub room : poll.waiting < poll.most

-- a round that begins
pub record IsNew (conn slot most : ℕ) (jobs : List LineJob) (poll : Poll) : Type 0 where
  pub conn_is : poll.conn ≡ conn
  pub slot_is : poll.slot ≡ slot
  pub most_is : poll.most ≡ most
  pub jobs_are : poll.jobs.items ≡ jobs
  pub turned : poll.turned ≡ 0
  pub waiting : poll.waiting ≡ 0
  pub taken : poll.taken ≡ 0
  pub round : poll.round ≡ record { asked = 0; recorded = 0; excepted = 0; refused = 0 }

-- all jobs had their turn, and no query waits
pub record IsDone (poll : Poll) : Type 0 where
  pub turned : poll.turned ≡ length poll.jobs.items
  pub waiting : poll.waiting ≡ 0

-- all jobs had their turn, or as many queries wait as may
abbrev pub IsWaiting : Poll → Type 0
IsWaiting poll = (poll.turned ≡ length poll.jobs.items) ⊎ (poll.waiting ≡ poll.most)

-- ---- what a move changes

-- the same round, of the same jobs
pub record IsSame (old new : Poll) : Type 0 where
  pub conn : new.conn ≡ old.conn
  pub slot : new.slot ≡ old.slot
  pub most : new.most ≡ old.most
  pub jobs : new.jobs.items ≡ old.jobs.items

-- the job at the turn is passed over
pub record Passed (old new : Poll) : Type 0 where
  pub same : IsSame old new
  pub turned : new.turned ≡ old.turned + 1
  pub first : new.first ≡ old.first
  pub waiting : new.waiting ≡ old.waiting
  pub round : new.round ≡ old.round

-- the job at the turn makes a query with this transaction
pub record Asked (old : Poll) (transaction : ℕ) (new : Poll) : Type 0 where
  pub same : IsSame old new
  pub turned : new.turned ≡ old.turned + 1
  pub first : new.first ≡ (if old.round.asked == 0 then transaction else old.first)
  pub waiting : new.waiting ≡ old.waiting + 1
  pub round : new.round ≡ record old.round { asked = old.round.asked + 1 }

-- a query is the round's own, by its transaction: the first one's, or one that follows that closely enough
abbrev pub own : ℕ → ℕ → ℕ → Bool
own first asked transaction = nat_lt ((transaction + (65536 - first)) % 65536) asked

-- how many queries wait after a frame
abbrev pub waiting_after : ℕ → ℕ → ℕ → ℕ → EventAnswer → ℕ
waiting_after first asked waiting transaction (answer.Arrived arrival) = if own first asked transaction then waiting - 1 else waiting
waiting_after first asked waiting transaction _ = waiting

-- a frame that has this transaction is answered so
pub record Took (old : Poll) (told : EventAnswer) (transaction : ℕ) (new : Poll) : Type 0 where
  pub same : IsSame old new
  pub turned : new.turned ≡ old.turned
  pub first : new.first ≡ old.first
  pub waiting : new.waiting ≡ waiting_after old.first old.round.asked old.waiting transaction told
  pub asked : new.round.asked ≡ old.round.asked
  pub recorded : new.round.recorded ≡ old.round.recorded + recorded_by told
  pub excepted : new.round.excepted ≡ old.round.excepted + excepted_by told
  pub refused : new.round.refused ≡ old.round.refused + refused_by told

-- ---- a round under way

-- the four numbers are those of the answers
pub record Counts (start : Start) (moves : List Move) (round : Round) : Type 0 where
  pub asked : round.asked ≡ asks_in moves
  pub recorded : round.recorded ≡ sum_in recorded_by start moves
  pub excepted : round.excepted ≡ sum_in excepted_by start moves
  pub refused : round.refused ≡ sum_in refused_by start moves

-- the round stands as these moves leave it
pub record IsAfter (start : Start) (moves : List Move) (poll : Poll) : Type 0 where
  pub conn : poll.conn ≡ start.conn
  pub slot : poll.slot ≡ start.slot
  pub most : poll.most ≡ start.most
  pub jobs : poll.jobs.items ≡ start.jobs
  pub turned : jobs_in moves ≡ take poll.turned start.jobs
  pub run : IsRun start moves
  pub counts : Counts start moves poll.round
  pub waiting : poll.waiting ≡ waiting_in start moves
  pub first : (asks_in moves ≡ 0) ⊎ (poll.first ≡ length (asked start.before start.conn) % 65536)
  pub made : length (asked (told start moves) start.conn) ≡ length (asked start.before start.conn) + asks_in moves

-- ---- a call leads on

-- what a crash may leave after more moves, from what it might leave before them
abbrev pub LeftSince : (Tables → Type 0) → Start → List Move → List Move → Tables → Type 0
LeftSince may start [] moves = may
LeftSince may start (Asks job ∷ more) moves =
    LeftAfter (LeftSince may start more moves) (tables (told start (more ++ moves))) (tables (told start (Asks job ∷ more ++ moves))) false
LeftSince may start (Passes job ∷ more) moves = LeftSince may start more moves
LeftSince may start (Comes frame ∷ more) moves =
    LeftAfter (LeftSince may start more moves) (tables (told start (more ++ moves))) (tables (told start (Comes frame ∷ more ++ moves))) false

-- more moves came after these, with these frames and queries; and then this one was refused, if one was
pub record Leads (stands : History → Type 0) (might may : Tables → Type 0) (start : Start) (moves : List Move) (poll : Poll) (came sent : List Frame) (tried : Option Move) : Type 0 where
  pub more : List Move
  pub follows : stands (told start (more ++ moves))
  pub frames_are : frames_in (more ++ moves) ≡ frames_in moves ++ came
  pub queries_are : queries_in start (more ++ moves) ≡ queries_in start moves ++ sent
  pub after : IsAfter start (more ++ moves) poll
  pub leaves : Within may (LeftTrying (LeftSince might start more moves) start (more ++ moves) tried)

-- whatever moves led to the one, more of them lead on to the other
abbrev pub GoesOn : {K : Type 0} {g : Ghosts K} → Office K g → Poll → Office K g → Poll → List Frame → List Frame → Type 0
GoesOn office old office' new came sent =
    (start : Start) (moves : List Move) → Follows office (told start moves) → IsAfter start moves old
    → Leads (Follows office') (MayLeave office) (MayLeave office') start moves new came sent None

-- the move that was refused is the turn of the next job, or brings the next of these frames
abbrev pub IsNext : Start → List Move → List Frame → Option Move → Type 0
IsNext start moves coming None = ⊤
IsNext start moves coming (Some (Asks job)) = (later : List LineJob) × (jobs_in moves ++ job ∷ later ≡ start.jobs)
IsNext start moves coming (Some (Passes job)) = ⊥
IsNext start moves coming (Some (Comes frame)) = (later : List Frame) × (coming ≡ frame ∷ later)

-- more moves came, and then it broke off with this fault, where these frames were still to come
pub record Ends (stands : History → Type 0) (might may : Tables → Type 0) (start : Start) (moves : List Move) (poll : Poll) (came coming sent : List Frame) (fault : PollFault) : Type 0 where
  pub tried : Option Move
  pub leads : Leads stands might may start moves poll came sent tried
  pub next : IsNext start (leads.more ++ moves) coming tried
  pub closed : ClosedBy fault (told start (leads.more ++ moves)) start.conn

-- whatever moves led to the one, more of them came before it broke off, if its jobs can be done
abbrev pub BreaksOff : {K : Type 0} {g : Ghosts K} → Office K g → Poll → Office K g → Poll → List Frame → List Frame → List Frame → PollFault → Type 0
BreaksOff office old office' new came coming sent fault =
    (start : Start) (moves : List Move) → All (CanBeDone start.before start.conn) start.jobs → Follows office (told start moves) → IsAfter start moves old
    → Ends (Follows office') (MayLeave office) (MayLeave office') start moves new came coming sent fault

abbrev pub as_list : Option Frame → List Frame
as_list None = []
as_list (Some frame) = frame ∷ []
