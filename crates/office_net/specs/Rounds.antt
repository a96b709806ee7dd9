-- A round over a reader and a writer.
use Rattle.std.specs.Prelude.{◌≡◌, ◌⊎◌, ℕ, List, [], ◌++◌, length, Option, Some, None}
use Rattle.std.specs.List.{flat_map}
use Rattle.std.specs.Io.KnownBytes.{Appends, Consumes}
use Rattle.mb_mbap.specs.declared.frame.Frame.{Frame}
use Rattle.mb_mbap.specs.Stream.{Splits, spelled}
use Rattle.mb_mbap.specs.Feeding.{StandsFor}
use Rattle.point_list.specs.declared.site.Site.{Site}
use Rattle.point_list.specs.Sites.{outstanding_on}
use Rattle.poll_book.specs.declared.keeper.Neighbours.{Ghosts}
use Rattle.poll_book.specs.Tables.{Tables, Within}
use Rattle.office_core.specs.declared.office.Office.{Office}
use Rattle.office_core.specs.History.{History, open_line, site_of}
use Rattle.office_net.specs.declared.round.Round.{Round}
use Rattle.office_net.specs.declared.fault.PollFault.{PollFault}
use Rattle.office_net.specs.declared.job.LineJob.{LineJob}
use Rattle.office_net.specs.declared.machine.Poll.{Poll}
use Rattle.office_net.specs.Faults.{ClosedBy, IsOfStream}
use Rattle.office_net.specs.Jobs.{AreJobs}
use Rattle.office_net.specs.Moves.{Start, Move, told, jobs_in, frames_in, queries_in, waiting_in, IsRun, LeftIn, LeftTrying}
use Rattle.office_net.specs.Stages.{BreaksOff, Counts, GoesOn, IsNext, taken_of}

-- how many queries of a connection may wait: as many as the site says of its line, and 16 where it isn't open
abbrev pub most_on : Site → Option ℕ → ℕ
most_on site None = 16
most_on site (Some line) = outstanding_on site line

abbrev pub most_of : History → ℕ → ℕ
most_of before conn = most_on (site_of before) (open_line before conn)

-- how the round of a connection's slot starts, with these jobs
abbrev pub start_of : ℕ → ℕ → List LineJob → History → Start
start_of conn slot jobs before = record { conn = conn; slot = slot; most = most_of before conn; jobs = jobs; before = before }

-- ---- parts of a round

-- the bytes of queries
abbrev pub query_bytes : List Frame → List ℕ
query_bytes queries = flat_map spelled queries

-- these frames were taken, and the queries that were made are what was written
abbrev pub Handles : {K : Type 0} {g : Ghosts K} → Office K g → Poll → Office K g → Poll → List Frame → Option (List ℕ) → Option (List ℕ) → Type 0
Handles office old office' new came wrote writes =
    (sent : List Frame) × GoesOn office old office' new came sent × Appends wrote writes (query_bytes sent)

-- these frames were taken, and then it broke off; the queries that were made are what was written, if no write failed
abbrev pub Breaks : {K : Type 0} {g : Ghosts K} → Office K g → Poll → Office K g → Poll → List Frame → List Frame → Type 0 → Option (List ℕ) → Option (List ℕ) → PollFault → Type 0
Breaks office old office' new came coming calm wrote writes fault =
    (sent : List Frame) × BreaksOff office old office' new came coming sent fault × (calm → Appends wrote writes (query_bytes sent))

-- of these frames some were taken, and then it broke off
abbrev pub BreaksIn : (List Frame → List Frame → Type 0) → List Frame → Type 0
BreaksIn breaks frames = (came : List Frame) × (coming : List Frame) × (came ++ coming ≡ frames) × breaks came coming

-- so many bytes were read and fed, and their frames were taken
pub record Fed (stream : Option (List ℕ)) (poll : Poll) (read : ℕ) (bytes : List ℕ) (frames : List Frame) : Type 0 where
  pub frames_are : StandsFor stream bytes frames
  pub taken : taken_of poll ≡ length frames
  pub read_are : length bytes ≡ read

-- a piece was read and fed, and its frames were taken
pub record Takes (handles : List Frame → Type 0) (poll : Poll) (stream : Option (List ℕ)) (read : ℕ) (bytes : List ℕ) (frames : List Frame) (unread left : Option (List ℕ)) : Type 0 where
  pub piece : List ℕ
  pub came : List Frame
  pub consumed : Consumes unread left piece
  pub fed : Fed stream poll read (bytes ++ piece) (frames ++ came)
  pub handled : handles came

-- a piece was read, of which a front was fed, and some of its frames were taken; and then it broke off
pub record Cuts (breaks : List Frame → List Frame → Type 0) (bytes : List ℕ) (frames : List Frame) (unread left : Option (List ℕ)) (fault : PollFault) : Type 0 where
  pub piece : List ℕ
  pub unfed : List ℕ
  pub came : List Frame
  pub coming : List Frame
  pub rest : List ℕ
  pub consumed : Consumes unread left (piece ++ unfed)
  pub splits : Splits (bytes ++ piece) ((frames ++ came) ++ coming) rest
  pub of_stream : IsOfStream (bytes ++ (piece ++ unfed)) rest fault
  pub broken : breaks came coming

-- a round under way: so much was read, every frame of it was taken, and its queries were written
pub record Underway (handles : List Frame → Type 0) (poll : Poll) (stream : Option (List ℕ)) (read : ℕ) (unread left : Option (List ℕ)) : Type 0 where
  pub bytes : List ℕ
  pub frames : List Frame
  pub fed : Fed stream poll read bytes frames
  pub consumed : Consumes unread left bytes
  pub handled : handles frames

-- ---- a whole round

-- it is done: of the bytes read every frame was taken, in their order, the bytes written are its queries, each job had its turn,
-- no query waits, the four numbers are those of the answers, and a crash leaves what happened
pub record IsWhole (stands : History → Type 0) (might may : Tables → Type 0) (start : Start) (unread left wrote writes : Option (List ℕ)) (round : Round) : Type 0 where
  pub moves : List Move
  pub follows : stands (told start moves)
  pub run : IsRun start moves
  pub turned : jobs_in moves ≡ start.jobs
  pub settled : waiting_in start moves ≡ 0
  pub counts : Counts start moves round
  pub bytes : List ℕ
  pub rest : List ℕ
  pub consumed : Consumes unread left bytes
  pub splits : Splits bytes (frames_in moves) rest
  pub written : Appends wrote writes (query_bytes (queries_in start moves))
  pub leaves : Within may (LeftIn might start moves)

-- it broke off: of a front of the bytes read a beginning of the frames was taken, some of the jobs had their turn, and one
-- move was refused, if it was for that
pub record IsCut (stands : History → Type 0) (might may : Tables → Type 0) (start : Start) (unread left : Option (List ℕ)) (calm : Type 0) (wrote writes : Option (List ℕ)) (fault : PollFault) : Type 0 where
  pub moves : List Move
  pub begun : (moves ≡ []) ⊎ AreJobs start.before start.conn start.jobs
  pub follows : stands (told start moves)
  pub run : IsRun start moves
  pub later : List LineJob
  pub turned : jobs_in moves ++ later ≡ start.jobs
  pub bytes : List ℕ
  pub unfed : List ℕ
  pub coming : List Frame
  pub rest : List ℕ
  pub consumed : Consumes unread left (bytes ++ unfed)
  pub splits : Splits bytes (frames_in moves ++ coming) rest
  pub written : calm → Appends wrote writes (query_bytes (queries_in start moves))
  pub tried : Option Move
  pub next : IsNext start moves coming tried
  pub leaves : Within may (LeftTrying (LeftIn might start moves) start moves tried)
  pub closed : ClosedBy fault (told start moves) start.conn
  pub of_stream : IsOfStream (bytes ++ unfed) rest fault

-- after a history, the round of a connection's slot came to this
abbrev pub Polls : (History → Type 0) → (Tables → Type 0) → (Tables → Type 0) → ℕ → ℕ → History → Option (List ℕ) → Option (List ℕ) → Option (List ℕ) → Option (List ℕ) → Round → Type 0
Polls stands might may conn slot before unread left wrote writes round =
    (jobs : List LineJob) × AreJobs before conn jobs × IsWhole stands might may (start_of conn slot jobs before) unread left wrote writes round

-- or it broke off with this fault
abbrev pub Stops : (History → Type 0) → (Tables → Type 0) → (Tables → Type 0) → ℕ → ℕ → History → Option (List ℕ) → Option (List ℕ) → Type 0 → Option (List ℕ) → Option (List ℕ) → PollFault → Type 0
Stops stands might may conn slot before unread left calm wrote writes fault =
    (jobs : List LineJob) × IsCut stands might may (start_of conn slot jobs before) unread left calm wrote writes fault
