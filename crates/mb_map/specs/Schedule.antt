-- When the replies of a simulator leave: a definition over the whole list of its calls. The reply to frame j leaves
-- with frame j, never, twice with frame j, or with frame j + k, as the script says; a rest before that gives it out.
use Rattle.std.specs.Prelude.{◌≡◌, ℕ, ◌+◌, ◌-◌, Bool, true, false, ◌&&◌, ◌==◌, nat_le, if◌then◌else◌, List, [], ◌∷◌, ◌++◌, length, drop, map, filter, Option, Some, None, slice_index_or, All, Contains, IsPermutation}
use Rattle.std.specs.Map.{lookup}
use Rattle.mb_pdu.specs.declared.table.Table.{Table}
use Rattle.mb_mbap.specs.declared.frame.Frame.{Frame}
use Rattle.mb_map.specs.declared.held.Held.{Held}
use Rattle.mb_map.specs.declared.step.Step.{Step}
use Rattle.mb_map.specs.declared.step.Step.TheVariants.{Pass, Drop, Twice, Hold}
use Rattle.mb_map.specs.Device.{DeviceStep, exception}
use Rattle.mb_map.specs.Tables.{CanHold, Tables, with_number}

-- devices by their unit identifiers
abbrev pub Devices : Type 0
Devices = List (ℕ × Tables)

-- the tables of a unit identifier, if there are some
abbrev pub tables_at : ℕ → Devices → Option Tables
tables_at unit_id devices = lookup (λ (id : ℕ). id == unit_id) devices

-- the devices with other tables for a unit identifier
abbrev pub with_tables : ℕ → Tables → Devices → Devices
with_tables unit_id tables devices = map (λ (d : ℕ × Tables). (d.0, (if d.0 == unit_id then tables else d.1))) devices

-- a device has the identifier, and its table may hold the number at the address
abbrev pub CanSet : Option Tables → Table → ℕ → ℕ → Type 0
CanSet None table address number = ⊥
CanSet (Some tables) table address number = CanHold table address number tables

-- the devices with a number at an address of a table of the one that has the identifier
abbrev pub set_in : Option Tables → ℕ → Table → ℕ → ℕ → Devices → Devices
set_in None unit_id table address number devices = devices
set_in (Some tables) unit_id table address number devices = with_tables unit_id (with_number table address number tables) devices

abbrev pub with_set : ℕ → Table → ℕ → ℕ → Devices → Devices
with_set unit_id table address number devices = set_in (tables_at unit_id devices) unit_id table address number devices

-- ---- what is answered

-- a device's own step, or exception 0B where no device has the identifier
abbrev pub Answers : Option Tables → ℕ → Devices → List ℕ → List ℕ → Devices → Type 0
Answers None unit_id before asked answer after = (answer ≡ exception asked 11) × (after ≡ before)
Answers (Some tables) unit_id before asked answer after = (new : Tables) × DeviceStep tables asked answer new × (after ≡ with_tables unit_id new before)

-- the reply to a frame has its transaction and its unit identifier
abbrev pub Serves : Devices → Frame → Frame → Devices → Type 0
Serves before frame reply after = (reply.transaction ≡ frame.transaction) × (reply.unit_id ≡ frame.unit_id)
    × Answers (tables_at frame.unit_id before) frame.unit_id before frame.unit reply.unit after

-- a call of a simulator: it takes a frame, rests, or sets a number at an address of a table of a device
pub data Call : Type 0 where
  Take : Frame → Call
  Rest : Call
  Set : ℕ → Table → ℕ → ℕ → Call

-- what came of a call: the reply to its frame, or none at a rest and at a number that was set
pub data Outcome : Type 0 where
  Replied : Frame → Outcome
  Rested : Outcome
  Changed : Outcome

-- the outcomes of calls, each on the devices that the one before it left
abbrev pub Run : Devices → List Call → List Outcome → Devices → Type 0
Run before [] [] after = after ≡ before
Run before (Take frame ∷ calls) (Replied reply ∷ outcomes) after = (between : Devices) × Serves before frame reply between × Run between calls outcomes after
Run before (Rest ∷ calls) (Rested ∷ outcomes) after = Run before calls outcomes after
Run before (Set unit_id table address number ∷ calls) (Changed ∷ outcomes) after = Run (with_set unit_id table address number before) calls outcomes after
Run before calls outcomes after = ⊥

-- ---- when it leaves

-- the reply to a frame: the frame's number, from 0, its step, and how many rests were before it
pub record Sent : Type 0 where
  pub number : ℕ
  pub step : Step
  pub rests : ℕ
  pub reply : Frame

-- the step of a frame: past the end of the script, pass
abbrev pub step_at : List Step → ℕ → Step
step_at script number = slice_index_or script number Pass

unfoldable pub sent_from : List Step → ℕ → ℕ → List Outcome → List Sent
sent_from script number rests [] = []
sent_from script number rests (Replied reply ∷ more) =
    record { number = number; step = step_at script number; rests = rests; reply = reply } ∷ sent_from script (number + 1) rests more
sent_from script number rests (Rested ∷ more) = sent_from script number (rests + 1) more
sent_from script number rests (Changed ∷ more) = sent_from script number rests more

-- the replies to the frames of a list of calls, in order
abbrev pub sent : List Step → List Outcome → List Sent
sent script outcomes = sent_from script 0 0 outcomes

unfoldable pub rests_in : List Outcome → ℕ
rests_in [] = 0
rests_in (Replied reply ∷ more) = rests_in more
rests_in (Rested ∷ more) = rests_in more + 1
rests_in (Changed ∷ more) = rests_in more

-- how many frames later a reply is due
abbrev pub wait : Step → ℕ
wait (Hold frames) = frames
wait step = 0

-- the number of the frame with which a held reply is due
abbrev pub due : Sent → ℕ
due s = s.number + wait s.step

-- what leaves of a reply with its own frame
abbrev pub own : Step → Frame → List Frame
own Pass reply = reply ∷ []
own Drop reply = []
own Twice reply = reply ∷ reply ∷ []
own (Hold frames) reply = []

abbrev pub reply_of : Sent → Frame
reply_of s = s.reply

-- of the frames before frame n, those without a rest since that are due with it
abbrev pub due_with : ℕ → ℕ → List Sent → List Frame
due_with n rests earlier = map reply_of (filter (λ (s : Sent). (s.rests == rests) && (due s == n)) earlier)

-- of the frames before frame n, those without a rest since that are due with it or later
abbrev pub is_waiting : ℕ → ℕ → Sent → Bool
is_waiting n rests s = (s.rests == rests) && nat_le n (due s)

-- what leaves with a call, after the calls before it: with a frame its own reply first, then the held ones by frame
unfoldable pub leaves : List Step → List Outcome → Outcome → List Frame
leaves script before (Replied reply) =
    let earlier = sent script before in
    own (step_at script (length earlier)) reply ++ due_with (length earlier) (rests_in before) earlier
leaves script before Rested =
    let earlier = sent script before in
    map reply_of (filter (is_waiting (length earlier) (rests_in before)) earlier)
leaves script before Changed = []

-- what leaves with each call of a list, after the calls before it
unfoldable pub schedule : List Step → List Outcome → List Outcome → List (List Frame)
schedule script before [] = []
schedule script before (outcome ∷ more) = leaves script before outcome ∷ schedule script (before ++ outcome ∷ []) more

-- ---- a simulator

-- its devices, the steps that are left, and the held replies, each with the number of frames until it leaves
pub record Simulated : Type 0 where
  pub devices : Devices
  pub script : List Step
  pub held : List Held

-- the replies that are still held
abbrev pub held_at : ℕ → ℕ → List Sent → List Held
held_at n rests earlier = map (λ (s : Sent). record { left = due s + 1 - n; reply = s.reply }) (filter (is_waiting n rests) earlier)

unfoldable pub waiting : List Step → List Outcome → List Held
waiting script outcomes = held_at (length (sent script outcomes)) (rests_in outcomes) (sent script outcomes)

-- the simulator began with these devices and this script, has had these calls and given these answers
pub record StandsFor (devices : Devices) (script : List Step) (calls : List Call) (answers : List (List Frame)) (sim : Simulated) : Type 0 where
  pub outcomes : List Outcome
  pub run : Run devices calls outcomes sim.devices
  pub answered : answers ≡ schedule script [] outcomes
  pub unused : sim.script ≡ drop (length (sent script outcomes)) script
  pub held : sim.held ≡ waiting script outcomes

-- one more call: whatever list of calls the simulator stood for, it now stands for that list and the call, and gave
-- what leaves with it
abbrev pub Continues : Simulated → Call → List Frame → Simulated → Type 0
Continues before call given after =
    (devices : Devices) (script : List Step) (calls : List Call) (answers : List (List Frame))
    → StandsFor devices script calls answers before → StandsFor devices script (calls ++ call ∷ []) (answers ++ given ∷ []) after

-- a simulator before its first call
abbrev pub begun : Devices → List Step → Simulated
begun devices script = record { devices = devices; script = script; held = [] }

-- ---- what has left in the end

abbrev pub gives_twice : Step → Bool
gives_twice Twice = true
gives_twice step = false

abbrev pub is_twice : Sent → Bool
is_twice s = gives_twice s.step

-- each reply is among what left, which is, in some order, every reply once and those that are given twice once more
pub record AllLeave (replies : List Sent) (left : List Frame) : Type 0 where
  pub each : All (λ (reply : Frame). Contains left reply) (map reply_of replies)
  pub as_often : IsPermutation (map reply_of replies ++ map reply_of (filter is_twice replies)) left
