-- What an office stands for.
use Rattle.std.specs.Prelude.{◌≡◌, ℕ, ◌≤◌, IfErr, ⊤, List, map, Option, Some, None, option_map, if◌then◌else◌, Result, Ok, Err, Vec}
use Rattle.std.specs.Global.{Global}
use Rattle.mb_mbap.specs.declared.frame.Frame.{Frame}
use Rattle.poll_match.specs.Window.{held}
use Rattle.point_list.specs.declared.site.Site.{Site}
use Rattle.poll_book.specs.declared.rows.PointRow.{PointRow}
use Rattle.poll_book.specs.Totals.{is_counter, last_of, value_after}
use Rattle.poll_book.specs.Histories.{own}
use Rattle.poll_book.specs.Tables.{Within, readings_between}
use Rattle.poll_book.specs.Showing.{Shown, as_shown, with_mark, with_marks}
use Rattle.poll_book.specs.declared.shown.ShownReading.{ShownReading}
use Rattle.poll_book.specs.declared.keeper.Neighbours.{Ghosts}
use Rattle.office_core.specs.declared.office.Office.{Office}
use Rattle.office_core.specs.declared.error.OfficeError.{OfficeError}
use Rattle.office_core.specs.declared.event.Arrival.{Arrival}
use Rattle.office_core.specs.declared.event.Event.{Event}
use Rattle.office_core.specs.declared.event.RequestAnswer.{RequestAnswer}
use Rattle.poll_book.specs.declared.rows.OrderState.{OrderState}
use Rattle.poll_book.specs.declared.rows.Setting.{Setting}
use Rattle.poll_book.specs.Orders.{setting_at}
use Rattle.office_core.specs.declared.event.EventAnswer.{EventAnswer}
use Rattle.office_core.specs.declared.event.EventAnswer.TheVariants as answer
use Rattle.poll_book.specs.declared.fault.StoreFault.{StoreFault}
use Rattle.poll_book.specs.Fault.{HasCause}
use Rattle.office_core.specs.Errors.{IsCaused, IsCounted}
use Rattle.office_core.specs.Loads.{known_named}
use Rattle.poll_book.specs.Requests.{RequestKey, request_at}
use Rattle.office_core.specs.History.{History, points, kept_readings, settings, requests, total, voids}
use Rattle.office_core.specs.Leavings.{Leaves, LeavesAll}
use Rattle.office_core.specs.Standing.{StandsFor}

-- what contracts see of an office, beside the histories that it stands for
abbrev pub keeper_of : {K : Type 0} {g : Ghosts K} → Office K g → K
keeper_of office = office.keeper

abbrev pub site_of : {K : Type 0} {g : Ghosts K} → Office K g → Site
site_of office = office.site

abbrev pub points_of : {K : Type 0} {g : Ghosts K} → Office K g → List PointRow
points_of office = office.points.items

-- an office whose keeper holds the history's tables stands for that history
abbrev pub Stands : {K : Type 0} {g : Ghosts K} → Office K g → History → Type 0
Stands {g = g} office before = StandsFor (g.holds office.keeper) office.site office.points.items office.matcher before

-- and the key wasn't used
abbrev pub StandsUnused : {K : Type 0} {g : Ghosts K} → Office K g → RequestKey → History → Type 0
StandsUnused office key before = Stands office before × (request_at (requests before) key ≡ None)

-- nothing changed but room: the tables that were held are held still
abbrev pub IsAlike : {K : Type 0} {g : Ghosts K} → Office K g → Office K g → Type 0
IsAlike {g = g} old new =
    Within (g.holds old.keeper) (g.holds new.keeper) × (new.site ≡ old.site) × (new.points.items ≡ old.points.items)
    × ((conn : ℕ) → held conn new.matcher ≡ held conn old.matcher)

-- ---- what a crash leaves

-- nothing that it couldn't leave before
abbrev pub LeavesNoMore : {K : Type 0} {g : Ghosts K} → Office K g → Office K g → Type 0
LeavesNoMore {g = g} old new = Within (g.may_leave new.keeper) (g.may_leave old.keeper)

-- an office that was only asked
abbrev pub OnlyAsked : {K : Type 0} {g : Ghosts K} → Office K g → Office K g → Type 0
OnlyAsked {g = g} old new = IsAlike old new × (g.is_clean new.keeper → LeavesNoMore old new)

-- after what the office saw as this event
abbrev pub LeavesSo : {K : Type 0} {g : Ghosts K} → Office K g → Office K g → Event → EventAnswer → Type 0
LeavesSo {g = g} old new seen told = Leaves (Stands old) (g.may_leave old.keeper) (g.may_leave new.keeper) seen told

-- the same under a key that wasn't used
abbrev pub LeavesUnused : {K : Type 0} {g : Ghosts K} → RequestKey → Office K g → Office K g → Event → EventAnswer → Type 0
LeavesUnused {g = g} key old new seen told = Leaves (StandsUnused old key) (g.may_leave old.keeper) (g.may_leave new.keeper) seen told

-- after what it saw as these events
abbrev pub LeavesRun : {K : Type 0} {g : Ghosts K} → Office K g → Office K g → List Event → List EventAnswer → Type 0
LeavesRun {g = g} old new events told = LeavesAll (Stands old) (g.may_leave old.keeper) (g.may_leave new.keeper) events told

-- ---- how a call's result is told

abbrev pub told_so : Result RequestAnswer OfficeError → EventAnswer
told_so (Ok told) = answer.Request told
told_so (Err e) = answer.Refused e

abbrev pub opened : Result ℕ OfficeError → EventAnswer
opened (Ok conn) = answer.Opened conn
opened (Err e) = answer.Refused e

abbrev pub asked_so : Result Frame OfficeError → EventAnswer
asked_so (Ok frame) = answer.Query frame
asked_so (Err e) = answer.Refused e

abbrev pub arrived : Result Arrival OfficeError → EventAnswer
arrived (Ok arrival) = answer.Arrived arrival
arrived (Err e) = answer.Refused e

-- memory was refused, or the keeper may answer this fault and counted a refusal between the one and the other
abbrev pub CauseFrom : {K : Type 0} {g : Ghosts K} → Office K g → Office K g → StoreFault → Type 0
CauseFrom {g = g} old new = HasCause g.may_refuse (g.refused old.keeper) (g.refused new.keeper)

-- the keeper may answer this fault, and counted a refusal between the one and the other
abbrev pub CountedFrom : {K : Type 0} {g : Ghosts K} → Office K g → Office K g → StoreFault → Type 0
CountedFrom {g = g} old new = IsCounted g.may_refuse (g.refused old.keeper) (g.refused new.keeper)

-- no refusal of the keeper is forgotten, and one that failed to undo a change isn't clean again
abbrev pub Counts : {K : Type 0} {g : Ghosts K} → Office K g → Office K g → Type 0
Counts {g = g} old new = (g.refused old.keeper ≤ g.refused new.keeper) × (g.is_clean new.keeper → g.is_clean old.keeper)

-- the same, and a call's error has its cause between the one and the other
abbrev pub AccountsFor : {K X E : Type 0} {g : Ghosts K} → ((StoreFault → Type 0) → E → Type 0) → Office K g → Office K g → Result X E → Type 0
AccountsFor {g = g} has_cause old new result =
    IfErr result (has_cause (CauseFrom old new)) × (g.refused old.keeper ≤ g.refused new.keeper) × (g.is_clean new.keeper → g.is_clean old.keeper)

-- the error is the store's fault itself
abbrev pub AsItIs : (StoreFault → Type 0) → StoreFault → Type 0
AsItIs cause = cause

-- a refusal by the store has its cause
abbrev pub AnswerCaused : (StoreFault → Type 0) → EventAnswer → Type 0
AnswerCaused cause (answer.Refused e) = IsCaused cause e
AnswerCaused cause _ = ⊤

-- ---- queries of a point

abbrev pub readings_at : History → Option PointRow → ℕ → ℕ → Option (List Shown)
readings_at before None from to = None
readings_at before (Some known) from to = Some (with_marks (voids before) (readings_between known.number from to (kept_readings before)))

-- the readings of a known point in the slots from the one to the other, with whether these are voided
abbrev pub readings_of : History → List ℕ → ℕ → ℕ → Option (List Shown)
readings_of before name from to = readings_at before (known_named (points before) name) from to

-- rows that are these readings, or none
abbrev pub Shows : Option (List Shown) → Option (Vec ShownReading Global) → Type 0
Shows None None = ⊤
Shows (Some table) (Some rows) = map as_shown rows.items ≡ table
Shows table rows = ⊥

abbrev pub last_reading_at : History → Option PointRow → Option Shown
last_reading_at before None = None
last_reading_at before (Some known) = option_map (with_mark (voids before)) (last_of (own known.number (kept_readings before)))

-- the last reading of a known point, with whether its slot is voided
abbrev pub last_reading_of : History → List ℕ → Option Shown
last_reading_of before name = last_reading_at before (known_named (points before) name)

abbrev pub total_at : History → Option PointRow → Option ℕ
total_at before None = None
total_at before (Some known) = if is_counter known.point.role then Some (total before known) else None

-- how far a known counter went
abbrev pub total_of : History → List ℕ → Option ℕ
total_of before name = total_at before (known_named (points before) name)

-- the value of the nearest counted reading of a known counter after a slot
abbrev pub value_after_at : History → Option PointRow → ℕ → Option ℕ
value_after_at before None slot = None
value_after_at before (Some known) slot = if is_counter known.point.role then value_after known slot (kept_readings before) else None

-- ---- queries by an order's number

abbrev pub state_of : Option Setting → Option OrderState
state_of found = option_map (λ (setting : Setting). setting.state) found

-- how the order of this number stands
abbrev pub order_state_of : History → ℕ → Option OrderState
order_state_of before number = state_of (setting_at (settings before) number)
