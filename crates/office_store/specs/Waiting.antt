-- The orders that wait, as they are known beside the tables.
use Rattle.std.specs.Global.{Global}
use Rattle.std.specs.Prelude.{◌≡◌, ◌==◌, ℕ, Bool, not, All, IfSome, IsSome, List, map, Option, Some, None, option_map, T, Vec, IsTrue, ⊤}
use Rattle.std.specs.FinMap.Entries.{is_sorted}
use Rattle.std.specs.Ordering.{nat_cmp}
use Rattle.std.specs.List.{filter}
use Rattle.sqlite.specs.State.{State, HasCleanDisk}
use Rattle.poll_book.specs.Tables.{Tables}
use Rattle.poll_book.specs.declared.rows.PointRow.{PointRow}
use Rattle.poll_book.specs.declared.rows.Setting.{Setting}
use Rattle.poll_book.specs.declared.rows.SettingRow.{SettingRow}
use Rattle.poll_book.specs.Orders.{Settings, as_setting, is_waiting, point_at}
use Rattle.office_store.specs.declared.waiting.WaitingOrder.{WaitingOrder}
use Rattle.office_store.specs.Kept.{Holds, IsHeld, Keeps}

-- settings by their numbers, each once
abbrev pub AreByNumber : Settings → Type 0
AreByNumber table = T (is_sorted nat_cmp table)

-- an entry of the settings whose order waits
abbrev pub waits : ℕ × Setting → Bool
waits row = is_waiting row.1.state

-- those of the orders that wait, by their numbers
abbrev pub waiting_of : Settings → Settings
waiting_of table = filter waits table

-- an order of another number
abbrev pub is_other : ℕ → WaitingOrder → Bool
is_other number waiting = not (waiting.order.number == number)

-- an order whose device wasn't looked up yet
abbrev pub not_looked_up : SettingRow → WaitingOrder
not_looked_up row = record { order = row; device = None }

-- the entry of the settings that an order is
abbrev pub entry_of : WaitingOrder → ℕ × Setting
entry_of waiting = as_setting waiting.order

-- the entries of those that wait
abbrev pub AreThose : Settings → List (ℕ × Setting) → Type 0
AreThose table entries = AreByNumber table × (entries ≡ waiting_of table)

-- the device of the point of this number, if the point is there
abbrev pub device_at : List PointRow → ℕ → Option (List ℕ)
device_at points number = option_map (λ known. known.point.device) (point_at points number)

-- what is remembered of an order's device, if something is, is so
abbrev pub IsOfItsDevice : List PointRow → WaitingOrder → Type 0
IsOfItsDevice points waiting = IfSome waiting.device (λ device. device_at points waiting.order.point ≡ Some device)

-- what is remembered is its device, if the point is there, and else nothing
abbrev pub IsLookedUp : List PointRow → WaitingOrder → Type 0
IsLookedUp points waiting = waiting.device ≡ device_at points waiting.order.point

-- what is remembered of the device of each is so
abbrev pub AreOfTheirDevices : List PointRow → List WaitingOrder → Type 0
AreOfTheirDevices points orders = All (IsOfItsDevice points) orders

-- devices of these orders may have been looked up, and nothing else changed
pub record OnlyLookedUp (old new : State) (before after : List WaitingOrder) : Type 0 where
  pub keeps : Keeps old new
  pub same : map entry_of after ≡ map entry_of before
  pub known : HasCleanDisk new → (kept : Tables) → Holds old kept → AreOfTheirDevices kept.points before → AreOfTheirDevices kept.points after

-- the device of each is known
abbrev pub AreKnown : List WaitingOrder → Type 0
AreKnown orders = All (λ waiting. IsSome waiting.device) orders

-- what was read of them, if it was, is so still, and so are the devices that were looked up
abbrev pub AreRead : List PointRow → Settings → Option (Vec WaitingOrder Global) → Type 0
AreRead points table None = ⊤
AreRead points table (Some orders) = AreThose table (map entry_of orders.items) × AreOfTheirDevices points orders.items

-- As far as it can still be read, it holds these tables, and what was read of the orders that wait is so.
abbrev pub HoldsBy : State → Option (Vec WaitingOrder Global) → Tables → Type 0
HoldsBy s read kept = HasCleanDisk s → (IsTrue s.is_open → IsHeld s kept) × AreRead kept.points kept.settings read
