-- The orders of an office: which of them wait, and on which device.
use Rattle.std.specs.Prelude.{ℕ, Bool, true, false, ◌&&◌, ◌==◌, List, [], ◌∷◌, find, Option, Some, None}
use Rattle.std.specs.Ordering.{nat_cmp}
use Rattle.std.specs.Str.{bytes_eq}
use Rattle.std.specs.FinMap.Entries as rows
use Rattle.poll_book.specs.declared.rows.PointRow.{PointRow}
use Rattle.poll_book.specs.declared.rows.OrderState.{OrderState}
use Rattle.poll_book.specs.declared.rows.OrderState.TheVariants.{Waiting, Done, Refused}
use Rattle.poll_book.specs.declared.rows.Setting.{Setting}
use Rattle.poll_book.specs.declared.rows.SettingRow.{SettingRow}

abbrev pub is_waiting : OrderState → Bool
is_waiting Waiting = true
is_waiting Done = false
is_waiting (Refused code) = false

-- the settings that orders make, by the orders' numbers: the list of their rows in this order
abbrev pub Settings : Type 0
Settings = List (ℕ × Setting)

-- what the order of this number sets
abbrev pub setting_at : Settings → ℕ → Option Setting
setting_at table number = rows.find nat_cmp number table

-- a table with the row put in
abbrev pub with_setting : ℕ → Setting → Settings → Settings
with_setting number setting table = rows.put nat_cmp number setting table

-- the number of the last order, 0 before the first
abbrev pub last_order : Settings → ℕ
last_order [] = 0
last_order (row ∷ []) = row.0
last_order (row ∷ next ∷ rest) = last_order (next ∷ rest)

abbrev pub as_setting : SettingRow → ℕ × Setting
as_setting row = (row.number, record { point = row.point; words = row.words; state = row.state })

-- the point of this number
abbrev pub point_at : List PointRow → ℕ → Option PointRow
point_at points number = find (λ (known : PointRow). known.number == number) points

abbrev pub is_of : List ℕ → Option PointRow → Bool
is_of device None = false
is_of device (Some known) = bytes_eq known.point.device device

-- an order of a point of this device that waits
abbrev pub waits_on : List PointRow → List ℕ → ℕ × Setting → Bool
waits_on points device row = is_waiting row.1.state && is_of device (point_at points row.1.point)

-- the oldest of them
abbrev pub oldest_waiting : List PointRow → List ℕ → Settings → Option (ℕ × Setting)
oldest_waiting points device table = find (waits_on points device) table
