-- A drill: the events that its steps make of an office and simulated devices, and what they are answered.
use Rattle.std.specs.Prelude.{◌≡◌, ◌⊎◌, ℕ, Bool, List, [], ◌∷◌, ◌++◌, map, reverse, length, Option, Some, None, is_some, if◌then◌else◌}
use Rattle.mb_pdu.specs.declared.table.Table.{Table}
use Rattle.mb_mbap.specs.declared.frame.Frame.{Frame}
use Rattle.mb_map.specs.Schedule.{CanSet, Continues, Simulated, tables_at}
use Rattle.mb_map.specs.Schedule.Call.{Rest, Set, Take}
use Rattle.poll_book.specs.Tables.{Tables}
use Rattle.poll_book.specs.declared.keeper.Neighbours.{Ghosts}
use Rattle.office_core.specs.declared.office.Office.{Office}
use Rattle.office_core.specs.History.{Happening, History}
use Rattle.office_core.specs.Leavings.{IsTold, LeavesAll, after_told}
use Rattle.office_core.specs.Offices.{Stands, keeper_of}
use Rattle.office_core.specs.Standing.{Runs}
use Rattle.office_core.specs.declared.event.Event.{Event}
use Rattle.office_core.specs.declared.event.Event.TheVariants as event
use Rattle.office_core.specs.declared.event.EventAnswer.{EventAnswer}
use Rattle.office_core.specs.declared.event.EventAnswer.TheVariants as answer
use Rattle.office_net.specs.declared.drilling.DrillStep.{DrillStep}
use Rattle.office_net.specs.declared.drilling.DrillStep.TheVariants as step

-- the connection over which an event makes a query, if it is an ask or a send
abbrev pub conn_of : Event → Option ℕ
conn_of (event.Ask conn device slot read) = Some conn
conn_of (event.Send conn number) = Some conn
conn_of other = None

abbrev pub query_in : EventAnswer → Option Frame
query_in (answer.Query frame) = Some frame
query_in other = None

-- frames that come over a connection, an event each
abbrev pub arrivals : ℕ → List Frame → List Event
arrivals conn frames = map (λ (frame : Frame). event.Arrive conn frame) frames

-- a number was set in a simulated device, or is none that it may hold
abbrev pub Sets : Simulated → ℕ → Table → ℕ → ℕ → Simulated → Type 0
Sets sim unit_id table address number after =
    Continues sim (Set unit_id table address number) [] after ⊎ ((CanSet (tables_at unit_id sim.devices) table address number → ⊥) × (after ≡ sim))

-- what devices gave for a query, if one was made
abbrev pub IsGiven : Simulated → Option Frame → Option (List Frame) → Simulated → Type 0
IsGiven sim None None after = after ≡ sim
IsGiven sim (Some query) (Some given) after = Continues sim (Take query) given after
IsGiven sim query given after = ⊥

-- the events of the frames that were given, if a query was made
abbrev pub Brings : ℕ → Option (List Frame) → List Event
Brings conn None = []
Brings conn (Some given) = arrivals conn given

-- an ask or a send over a connection, and the frames that devices gave for its query, if there was one
pub record Makes (sim : Simulated) (conn : ℕ) (first : Event) (asked : Bool) (events : List Event) (told : List EventAnswer) (after : Simulated) : Type 0 where
  pub answered : EventAnswer
  pub given : Option (List Frame)
  pub more : List EventAnswer
  pub gives : IsGiven sim (query_in answered) given after
  pub events_are : events ≡ first ∷ Brings conn given
  pub told_are : told ≡ answered ∷ more
  pub asked_is : asked ≡ is_some given

-- an event, over the connection of which it may make a query, if it is such a one; and the connection over which it made one
abbrev pub Plays : Simulated → Option ℕ → Event → Option ℕ → List Event → List EventAnswer → Simulated → Type 0
Plays sim None first over events told after = (events ≡ []) × (told ≡ []) × (after ≡ sim) × (over ≡ None)
Plays sim (Some conn) first over events told after =
    (asked : Bool) × Makes sim conn first asked events told after × (over ≡ (if asked then Some conn else None))

-- a step: the connection over which it made a query, if it made one, its events with their answers, and the devices after it
abbrev pub Does : Simulated → DrillStep → Option ℕ → List Event → List EventAnswer → Simulated → Type 0
Does sim (step.Set unit_id table address number) over events told after =
    Sets sim unit_id table address number after × (events ≡ []) × (told ≡ []) × (over ≡ None)
Does sim (step.Make first) over events told after = Plays sim (conn_of first) first over events told after

-- the connection of the last query
abbrev pub last_over : Option ℕ → Option ℕ → Option ℕ
last_over last None = last
last_over last (Some conn) = Some conn

-- a step that comes after others
pub record DoesNext (sim : Simulated) (done : Option ℕ) (one : DrillStep) (events : List Event) (told : List EventAnswer) (after : Simulated) (last : Option ℕ) : Type 0 where
  pub over : Option ℕ
  pub does : Does sim one over events told after
  pub last_is : last ≡ last_over done over

-- steps one after the other, of which the last ones come first
abbrev pub DoAll : Simulated → List DrillStep → List Event → List EventAnswer → Simulated → Option ℕ → Type 0
DoAll sim [] events told after last = (events ≡ []) × (told ≡ []) × (after ≡ sim) × (last ≡ None)
DoAll sim (one ∷ before) events told after last =
    (between : Simulated) × (done : Option ℕ) × (es ms : List Event) × (ts us : List EventAnswer)
    × DoAll sim before es ts between done × DoesNext between done one ms us after last × (events ≡ es ++ ms) × (told ≡ ts ++ us)

-- what the devices still held comes over the connection of the last query, if there was one
abbrev pub BringsHeld : Option ℕ → List Frame → List Event
BringsHeld None held = []
BringsHeld (Some conn) held = arrivals conn held

-- a whole drill: its steps, and then what the devices still held
pub record Drills (sim : Simulated) (steps : List DrillStep) (events : List Event) (told : List EventAnswer) (after : Simulated) : Type 0 where
  pub between : Simulated
  pub last : Option ℕ
  pub made : List Event
  pub answered : List EventAnswer
  pub steps_do : DoAll sim (reverse steps) made answered between last
  pub held : List Frame
  pub rests : Continues between Rest held after
  pub more : List EventAnswer
  pub events_are : events ≡ made ++ BringsHeld last held
  pub told_are : told ≡ answered ++ more

-- a step under way made its event, or nothing yet
abbrev pub Begins : DrillStep → List Event → Type 0
Begins (step.Make first) events = (events ≡ []) ⊎ (events ≡ first ∷ [])
Begins other events = events ≡ []

abbrev pub IsUnderWay : List DrillStep → List Event → Type 0
IsUnderWay [] events = events ≡ []
IsUnderWay (one ∷ steps) events = Begins one events

-- a drill that memory broke off: some steps were done, and the next one, if there was one, was under way
pub record BreaksOff (sim : Simulated) (steps : List DrillStep) (events : List Event) (told : List EventAnswer) : Type 0 where
  pub done : List DrillStep
  pub left : List DrillStep
  pub steps_are : steps ≡ done ++ left
  pub between : Simulated
  pub last : Option ℕ
  pub made : List Event
  pub answered : List EventAnswer
  pub steps_do : DoAll sim (reverse done) made answered between last
  pub begun : List Event
  pub more : List EventAnswer
  pub under_way : IsUnderWay left begun
  pub events_are : events ≡ made ++ begun
  pub told_are : told ≡ answered ++ more

-- ---- what an office does meanwhile

-- the history after what was told so
abbrev pub at_last : History → List Happening → List EventAnswer → History
at_last before [] told = before
at_last before (happening ∷ rest) [] = before
at_last before (happening ∷ rest) (a ∷ told) = at_last (after_told before happening a) rest told

-- events came to an office one after the other, and were answered so
pub record IsLed (old new : History → Type 0) (might may : Tables → Type 0) (events : List Event) (told : List EventAnswer) : Type 0 where
  pub each : length told ≡ length events
  pub runs : Runs old new events told
  pub stands : (before : History) (rest : List Happening) → old before → IsTold before rest events told → new (at_last before rest told)
  pub leaves : LeavesAll old might may events told

abbrev pub Leads : {K : Type 0} {g : Ghosts K} → Office K g → Office K g → List Event → List EventAnswer → Type 0
Leads {g = g} old new events told = IsLed (Stands old) (Stands new) (g.may_leave (keeper_of old)) (g.may_leave (keeper_of new)) events told
