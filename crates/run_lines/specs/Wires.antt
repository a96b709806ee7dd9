-- How a line's connection stands, deed by deed.
use Rattle.std.specs.Prelude.{◌≡◌, ◌⊎◌, ◌≤◌, ◌<◌, ⊤, ℕ, Bool, true, false, IsSome, List, [], ◌∷◌, ◌++◌, length, Option, Some, None, Result, Err}
use Rattle.std.specs.List.{filter, list_any}
use Rattle.mb_mbap.specs.declared.frame.Frame.{Frame}
use Rattle.mb_mbap.specs.Stream.{fault_of, spelled}
use Rattle.poll_book.specs.declared.keeper.Neighbours.{Ghosts}
use Rattle.read_planner.specs.declared.Read.{Read}
use Rattle.run_beat.specs.declared.sockets.Source.{Source}
use Rattle.run_beat.specs.Acts.{Act, Begins, Reads, Ends, Writes, Closes}
use Rattle.office_core.specs.declared.office.Office.{Office}
use Rattle.office_core.specs.declared.event.EventAnswer.{EventAnswer}
use Rattle.office_core.specs.declared.event.EventAnswer.TheVariants.{Arrived, Opened, Query}
use Rattle.office_core.specs.Answers.{answer_of}
use Rattle.office_core.specs.History.{Happening, History, Send}
use Rattle.office_core.specs.Proceeding.{Did, Missed}
use Rattle.office_net.specs.Kinds.{Asks, Hears, Opens, Sends as SendsOne}
use Rattle.run_lines.specs.declared.loss.Stop.{Stop}
use Rattle.run_lines.specs.declared.loss.Stop.TheVariants.{Lost}
use Rattle.run_lines.specs.declared.window.Query.{Query as Waiting}
use Rattle.run_lines.specs.Windows.{is_for, is_of_another, is_under_another}
use Rattle.run_deeds.specs.Deeds.{Deed, GivesUpOn, Over, PartOf, PassesBy, Rests, Starts, With}

-- what the site says of a line: its name, and how many of its queries may wait
pub record Terms : Type 0 where
  pub name : List ℕ
  pub most : ℕ

-- a connection that stands
pub record Standing : Type 0 where
  -- its number, which the office gave it
  pub conn : ℕ
  -- the bytes that are left to be written
  pub left : List ℕ
  -- the bytes that were read and are of no frame that was heard
  pub unread : List ℕ
  -- whether more is read: not where no frame can follow
  pub reading : Bool
  -- the queries that are neither answered nor given up
  pub waiting : List Waiting
  -- the slot of the round that is under way
  pub round : Option ℕ

pub data Wire : Type 0 where
  -- no connection stands
  Down : Wire
  -- one is begun
  Begun : Wire
  Up : Standing → Wire

-- one over which nothing went yet
abbrev pub fresh : ℕ → Standing
fresh conn = record { conn = conn; left = []; unread = []; reading = true; waiting = []; round = None }

-- a query over a connection in the round of a slot, beside those that wait: a read is asked for it, or an order is sent that
-- doesn't wait there
pub data Queries (conn : ℕ) (round : Option ℕ) (waiting : List Waiting) (order : Option ℕ) (now : History) (event : Happening) : Type 0 where
  AsksOver : (slot : ℕ) (device : List ℕ) (read : Read) → round ≡ Some slot → order ≡ None → Asks conn slot device read now event
      → Queries conn round waiting order now event
  SendsOver : (slot : ℕ) (device : List ℕ) (number : ℕ) → round ≡ Some slot → order ≡ Some number → list_any (is_for number) waiting ≡ false
      → event ≡ Send conn number → SendsOne conn device now event → Queries conn round waiting order now event

-- the same, whether it is for an order or not
abbrev pub SomeQuery : ℕ → Option ℕ → List Waiting → History → Happening → Type 0
SomeQuery conn round waiting now event = (order : Option ℕ) × Queries conn round waiting order now event

-- bytes were read behind others; what begins with a bad header is dropped, and then no frame can follow
abbrev pub Reaches : Standing → List ℕ → Wire → Type 0
Reaches at bytes wire' =
    (wire' ≡ Up (record at { unread = at.unread ++ bytes }))
    ⊎ ((whole : List ℕ) × (bad : List ℕ) × (at.unread ++ bytes ≡ whole ++ bad) × IsSome (fault_of bad) × (wire' ≡ Up (record at { unread = whole; reading = false })))

-- a query was made: it is to be written behind the others, and waits
abbrev pub sent : Frame → Waiting → Standing → Standing
sent query asked at = record at { left = at.left ++ spelled query; waiting = at.waiting ++ asked ∷ [] }

abbrev pub Sends : Standing → Frame → Option ℕ → Wire → Type 0
Sends at query order wire' = (asked : Waiting) × (asked.transaction ≡ query.transaction) × (asked.order ≡ order) × (wire' ≡ Up (sent query asked at))

-- the queries that wait behind the reply to one
abbrev pub settled : Frame → Standing → Standing
settled frame at = record at { waiting = filter (is_under_another frame.transaction) at.waiting }

abbrev pub heard : EventAnswer → Frame → Standing → Standing
heard (Arrived arrival) frame at = settled frame at
heard _ frame at = at

-- the next frame of what was read comes
abbrev pub IsNext : Standing → Frame → List ℕ → Type 0
IsNext at frame rest = at.unread ≡ spelled frame ++ rest

-- all queries of a device are given up
abbrev pub given_up : ℕ → Wire → Wire
given_up device (Up at) = Up (record at { waiting = filter (is_of_another device) at.waiting })
given_up device wire = wire

-- no round is under way any more
abbrev pub rested : Wire → Wire
rested (Up at) = Up (record at { round = None })
rested wire = wire

-- it is as it was, or no round is under way any more
abbrev pub Settles : Wire → Wire → Type 0
Settles wire wire' = (wire' ≡ wire) ⊎ (wire' ≡ rested wire)

-- the queries of devices were given up, the last of them first
abbrev pub without : List ℕ → Wire → Wire
without [] wire = wire
without (device ∷ devices) wire = given_up device (without devices wire)

abbrev pub GivesUp : Wire → Wire → Type 0
GivesUp wire wire' = (devices : List ℕ) × (wire' ≡ without devices wire)

-- What a deed makes of the connection of a line. It is begun where none stands, and stands under the number that the office
-- gives as the line is opened; what is asked goes over it, query behind query, and nothing else, while fewer wait than may, and
-- no order while it waits there; and the frames that are heard are those of the bytes that were read over it, each once, in
-- their order
abbrev pub WireMoves : Terms → History → Wire → Deed → Wire → Type 0
WireMoves terms now wire (With (Closes source)) wire' = wire' ≡ Down
WireMoves terms now wire (GivesUpOn source device) wire' = wire' ≡ given_up device wire
WireMoves terms now wire (Rests source) wire' = wire' ≡ rested wire
WireMoves terms now Down (With (Begins source)) wire' = wire' ≡ Begun
WireMoves terms now Begun (Over source (Did event)) wire' = (conn : ℕ) × Opens terms.name now event × (answer_of now event ≡ Opened conn) × (wire' ≡ Up (fresh conn))
WireMoves terms now Begun (Over source (Missed event)) wire' = Opens terms.name now event × (wire' ≡ Begun)
WireMoves terms now (Up at) (With (Reads source bytes)) wire' = (at.reading ≡ true) × Reaches at bytes wire'
WireMoves terms now (Up at) (With (Ends source)) wire' = wire' ≡ Up at
WireMoves terms now (Up at) (With (Writes source bytes)) wire' = (rest : List ℕ) × (at.left ≡ bytes ++ rest) × (wire' ≡ Up (record at { left = rest }))
WireMoves terms now (Up at) (Over source (Did event)) wire' =
    ((query : Frame) × (order : Option ℕ) × Queries at.conn at.round at.waiting order now event × (answer_of now event ≡ Query query) × (length at.waiting < terms.most)
    × Sends at query order wire')
    ⊎ ((frame : Frame) × (rest : List ℕ) × Hears at.conn frame now event × IsNext at frame rest × (wire' ≡ Up (heard (answer_of now event) frame (record at { unread = rest }))))
WireMoves terms now (Up at) (Over source (Missed event)) wire' =
    (SomeQuery at.conn at.round at.waiting now event × (wire' ≡ Up at))
    ⊎ ((frame : Frame) × (rest : List ℕ) × Hears at.conn frame now event × IsNext at frame rest × (wire' ≡ Up (settled frame (record at { unread = rest }))))
WireMoves terms now _ _ _ = ⊥

-- how a line stands: no slot before this one is begun, and its connection
pub record State : Type 0 where
  pub from : ℕ
  pub wire : Wire

-- where a later slot is the last that was begun, it is this one
abbrev pub BeginsAt : Option ℕ → State → State → Type 0
BeginsAt slot before after = (after.from ≡ before.from) ⊎ (slot ≡ Some after.from)

-- What a deed makes of a line: a round is begun over a connection that stands, and none for a slot before one that was begun
abbrev pub LineMoves : Terms → History → State → Deed → State → Type 0
LineMoves terms now state (Starts source slot) state' =
    (at : Standing) × (state.wire ≡ Up at) × (state.from ≤ slot) × (state' ≡ record { from = slot; wire = Up (record at { round = Some slot }) })
LineMoves terms now state deed state' = (state'.from ≡ state.from) × WireMoves terms now state.wire deed state'.wire

-- what is done with a line's socket alone
abbrev pub WiredBy : Terms → Source → (List Act → Type 0) → Wire → Wire → Type 0
WiredBy terms = PassesBy (WireMoves terms)

-- what is done over a line's connection
abbrev pub Wired : {K : Type 0} {g : Ghosts K} → Terms → Source → Office K g → Office K g → (List Act → Type 0) → Wire → Wire → Type 0
Wired terms source old new acted wire wire' = PartOf (WireMoves terms) source old new acted wire wire'

-- a line's part of a run
abbrev pub Lined : {K : Type 0} {g : Ghosts K} → Terms → Source → Office K g → Office K g → (List Act → Type 0) → State → State → Type 0
Lined terms source old new acted state state' = PartOf (LineMoves terms) source old new acted state state'

-- the connection stands as it is shown, unless a call told that it is lost: it is closed then, whatever waits
abbrev pub IsShown : {T : Type 0} → Result T Stop → Wire → Wire → Type 0
IsShown (Err (Lost why)) wire shown = ⊤
IsShown _ wire shown = shown ≡ wire

-- the same of a call that may fail
abbrev pub Works : {K T : Type 0} {g : Ghosts K} → Result T Stop → Terms → Source → Office K g → Office K g → (List Act → Type 0) → Wire → Wire → Type 0
Works told terms source old new acted before shown = (wire : Wire) × Wired terms source old new acted before wire × IsShown told wire shown

abbrev pub Goes : {K T : Type 0} {g : Ghosts K} → Result T Stop → Terms → Source → Office K g → Office K g → (List Act → Type 0) → State → State → Type 0
Goes told terms source old new acted before shown = (state : State) × Lined terms source old new acted before state × (shown.from ≡ state.from) × IsShown told state.wire shown.wire

abbrev pub Acted : {T : Type 0} → Result T Stop → Terms → Source → (List Act → Type 0) → Wire → Wire → Type 0
Acted told terms source acted before shown = (wire : Wire) × WiredBy terms source acted before wire × IsShown told wire shown
