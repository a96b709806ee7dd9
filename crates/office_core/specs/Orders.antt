-- What becomes of an order, what is sent for it, and what settles it.
use Rattle.std.specs.Prelude.{ℕ, ℤ, ◌+◌, Bool, true, false, not, ◌||◌, ◌==◌, nat_le, if◌then◌else◌, List, Option, Some, None}
use Rattle.point_list.specs.declared.point.Role.{Role}
use Rattle.point_list.specs.declared.point.Role.TheVariants.{Gauge, Counter, Setting as IsSet}
use Rattle.point_list.specs.declared.site.Site.{Site}
use Rattle.poll_match.specs.declared.asked.Payload.TheVariants.{One}
use Rattle.poll_match.specs.Queries.{payload}
use Rattle.poll_book.specs.declared.rows.PointRow.{PointRow}
use Rattle.poll_book.specs.declared.rows.OrderState.{OrderState}
use Rattle.poll_book.specs.declared.rows.OrderState.TheVariants.{Waiting, Done, Refused as RefusedBy}
use Rattle.poll_book.specs.declared.rows.Setting.{Setting}
use Rattle.poll_book.specs.declared.rows.SettingRow.{SettingRow}
use Rattle.poll_book.specs.declared.requests.RequestFault.{RequestFault}
use Rattle.poll_book.specs.declared.requests.RequestFault.TheVariants as fault
use Rattle.poll_book.specs.declared.requests.Outcome.{Outcome}
use Rattle.poll_book.specs.declared.requests.Outcome.TheVariants.{Ordered, RefusedFor}
use Rattle.poll_book.specs.Orders.{Settings, is_waiting, setting_at, with_setting, last_order, point_at, oldest_waiting}
use Rattle.office_core.specs.declared.error.OfficeError.{OfficeError}
use Rattle.office_core.specs.declared.error.OfficeError.TheVariants as error
use Rattle.office_core.specs.declared.site.Target.{Target}
use Rattle.office_core.specs.Sites.{target}
use Rattle.office_core.specs.Registers.{registers_for}
use Rattle.office_core.specs.Queries.{Writing, Query, Reads, Writes, fits, is_excepted, exception_code}

-- ---- what becomes of an order

-- it is refused, or it sets a point to these words
pub data Ordering : Type 0 where
  Refused : (fault : RequestFault) → Ordering
  Taken : (point : ℕ) (words : List ℕ) → Ordering

abbrev pub is_setting : Role → Bool
is_setting IsSet = true
is_setting Gauge = false
is_setting Counter = false

-- where so many orders exist; at most 1,000,000 do
abbrev pub ordering_words : ℕ → ℕ → Option (List ℕ) → Ordering
ordering_words orders point None = Refused fault.OutOfRange
ordering_words orders point (Some words) = if nat_le 1000000 orders then Refused fault.TooManyOrders else Taken point words

abbrev pub ordering_of : ℕ → Option PointRow → ℤ → Ordering
ordering_of orders None value = Refused fault.UnknownPoint
ordering_of orders (Some known) value =
    if is_setting known.point.role then ordering_words orders known.number (registers_for known.point value)
    else Refused fault.NotASetting

-- an accepted order takes the next number
abbrev pub ordered : ℕ → Ordering → Outcome
ordered orders (Refused fault) = RefusedFor (record { fault = fault; row = 0; column = 0 })
ordered orders (Taken point words) = Ordered (orders + 1)

-- the settings with what it sets, which waits
abbrev pub with_ordered : Ordering → Settings → Settings
with_ordered (Refused fault) table = table
with_ordered (Taken point words) table = with_setting (last_order table + 1) (record { point = point; words = words; state = Waiting }) table

-- the row of what it sets, which waits
abbrev pub ordering_row : ℕ → Ordering → Option SettingRow
ordering_row orders (Refused fault) = None
ordering_row orders (Taken point words) = Some (record { number = orders + 1; point = point; words = words; state = Waiting })

-- ---- sends

-- the order is the oldest that waits on the device
abbrev pub is_number : Option (ℕ × Setting) → ℕ → Bool
is_number None number = false
is_number (Some row) number = row.0 == number

abbrev pub send_fault_on : Option Target → ℕ → OrderState → Bool → ℕ → Option OfficeError
send_fault_on None line state is_next made = Some error.WrongLine
send_fault_on (Some to) line state is_next made =
    if not (to.line == line) then Some error.WrongLine
    else if not (is_waiting state) then Some error.Settled
    else if not is_next then Some error.NotNext
    else if nat_le 4294967295 made then Some error.Exhausted
    else None

abbrev pub send_fault_at : Option PointRow → ℕ → Site → List PointRow → Settings → ℕ → ℕ → OrderState → Option OfficeError
send_fault_at None line site known table made number state = Some error.WrongLine
send_fault_at (Some row) line site known table made number state =
    send_fault_on (target site row.point.device) line state (is_number (oldest_waiting known row.point.device table) number) made

abbrev pub send_fault_of : Option Setting → ℕ → Site → List PointRow → Settings → ℕ → ℕ → Option OfficeError
send_fault_of None line site known table made number = Some error.NoOrder
send_fault_of (Some setting) line site known table made number =
    send_fault_at (point_at known setting.point) line site known table made number setting.state

-- the first refusal of a Send that holds, over a connection of that line that made so many queries
abbrev pub send_fault : Option ℕ → Site → List PointRow → Settings → ℕ → ℕ → Option OfficeError
send_fault None site known table made number = Some error.NoConnection
send_fault (Some line) site known table made number = send_fault_of (setting_at table number) line site known table made number

abbrev pub unit_id_at : Option Target → ℕ
unit_id_at None = 0
unit_id_at (Some to) = to.unit_id

abbrev pub writing_at : Option PointRow → Site → ℕ → List ℕ → Writing
writing_at None site number words = record { order = number; unit_id = 0; address = 0; payload = One 0 }
writing_at (Some row) site number words = record {
  order = number;
  unit_id = unit_id_at (target site row.point.device);
  address = row.point.address;
  payload = payload row.point.kind words;
}

abbrev pub writing_of : Option Setting → Site → List PointRow → ℕ → Writing
writing_of None site known number = record { order = number; unit_id = 0; address = 0; payload = One 0 }
writing_of (Some setting) site known number = writing_at (point_at known setting.point) site number setting.words

-- what is written for an order
abbrev pub writing : Site → List PointRow → Settings → ℕ → Writing
writing site known table number = writing_of (setting_at table number) site known number

-- ---- what settles an order

-- the device says that it took a request and isn't done with it: acknowledge (5) or server device busy (6)
abbrev pub is_busy : ℕ → Bool
is_busy code = code == 5 || code == 6

-- such an exception settles nothing, any other refuses the order
abbrev pub state_after : ℕ → Option OrderState
state_after code = if is_busy code then None else Some (RefusedBy code)

-- how an order stands after a unit that answers its query, if the unit settles it
abbrev pub state_by : Writing → List ℕ → Option OrderState
state_by w unit = if is_excepted (Writes w) unit then state_after (exception_code unit) else Some Done

-- the setting of an order that waits
abbrev pub waiting_at : Option Setting → Option Setting
waiting_at None = None
waiting_at (Some setting) = if is_waiting setting.state then Some setting else None

-- an order that waits is settled so; one that is settled stays as it is
abbrev pub settle_at : ℕ → OrderState → Option Setting → Settings → Settings
settle_at number state None table = table
settle_at number state (Some setting) table =
    if is_waiting setting.state then with_setting number (record setting { state = state }) table else table

abbrev pub settle : ℕ → Option OrderState → Settings → Settings
settle number None table = table
settle number (Some state) table = settle_at number state (setting_at table number) table

-- the settings after a unit that comes to a query
abbrev pub settled_by : Option Query → List ℕ → Settings → Settings
settled_by None unit table = table
settled_by (Some (Reads q)) unit table = table
settled_by (Some (Writes w)) unit table = if fits (Writes w) unit then settle w.order (state_by w unit) table else table
