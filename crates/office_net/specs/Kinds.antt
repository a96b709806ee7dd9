-- Kinds of what is done with an office: which events may be made of a history.
use Rattle.std.specs.Prelude.{◌≡◌, ℕ, true, List, Option, Some, is_some, option_map}
use Rattle.mb_mbap.specs.declared.frame.Frame.{Frame}
use Rattle.poll_book.specs.declared.rows.Setting.{Setting}
use Rattle.read_planner.specs.declared.Read.{Read}
use Rattle.office_core.specs.History.{Happening, History, Open, Ask, Send}
use Rattle.office_core.specs.Lacking.{lacks}
use Rattle.office_core.specs.Messages.{arriving}
use Rattle.office_http.specs.Meanings.{Meaning}
use Rattle.office_net.specs.declared.job.LineJob.{LineJob}
use Rattle.office_net.specs.declared.job.LineJob.TheVariants as job
use Rattle.office_net.specs.declared.machine.Poll.{Poll}
use Rattle.office_net.specs.Moves.{next_order, number_of}
use Rattle.office_net.specs.Replies.{event_of}

-- a line is opened
abbrev pub Opens : List ℕ → History → Happening → Type 0
Opens line now event = event ≡ Open line

-- a frame comes over a connection
abbrev pub Hears : ℕ → Frame → History → Happening → Type 0
Hears conn frame now event = event ≡ arriving now conn frame

-- a read is asked, of which some point has no reading in the slot
abbrev pub Asks : ℕ → ℕ → List ℕ → Read → History → Happening → Type 0
Asks conn slot device read now event = (lacks now device slot read ≡ true) × (event ≡ Ask conn device slot read)

abbrev pub number_in : ℕ × Setting → ℕ
number_in row = row.0

-- the number of the oldest order that waits on a device, or none
abbrev pub IsOldest : History → List ℕ → Option ℕ → Type 0
IsOldest now device number = number ≡ option_map number_in (next_order now device)

-- the oldest order that waits on a device is sent
abbrev pub Sends : ℕ → List ℕ → History → Happening → Type 0
Sends conn device now event = (is_some (next_order now device) ≡ true) × (event ≡ Send conn (number_of (next_order now device)))

-- a job has its turn
abbrev pub Turn : ℕ → ℕ → LineJob → History → Happening → Type 0
Turn conn slot (job.Order device) = Sends conn device
Turn conn slot (job.Read device read) = Asks conn slot device read

-- some job of a round under way has
abbrev pub TurnIn : Poll → History → Happening → Type 0
TurnIn poll now event = (some : LineJob) × Turn poll.conn poll.slot some now event

-- a frame comes in a round under way
abbrev pub HearsIn : Poll → Frame → History → Happening → Type 0
HearsIn poll frame = Hears poll.conn frame

-- what a caller asks for is done
abbrev pub Does : Meaning → History → Happening → Type 0
Does meaning now event = event_of meaning ≡ Some event
