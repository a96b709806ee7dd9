-- How the keeper in memory finds an order, a point by its number, and the oldest order that waits on a device.
use Rattle.std.specs.Prelude.{◌≡◌, ℕ, ◌+◌, ◌<◌, ◌≤◌, false, List, All, map, take, length, get_or}
use Rattle.std.specs.BTreeMap.{BTreeMap, get}
use Rattle.std.specs.Cmp.Lexicographic.{slice_cmp}
use Rattle.std.specs.Option.{unwrap_or}
use Rattle.std.specs.Ordering.{nat_cmp}
use Rattle.poll_book.specs.declared.marks.Marks.{Marks}
use Rattle.poll_book.specs.declared.rows.PointRow.{PointRow}
use Rattle.poll_book.specs.declared.rows.SettingRow.{SettingRow}
use Rattle.poll_book.specs.declared.rows.TotalRow.{TotalRow}
use Rattle.poll_book.specs.declared.history.History.{History}
use Rattle.poll_book.specs.Histories.{AreOrdered, IsRising}
use Rattle.poll_book.specs.Orders.{Settings, as_setting, is_waiting, waits_on}

abbrev pub number_of : SettingRow → ℕ
number_of row = row.number

abbrev pub total_point : TotalRow → ℕ
total_point row = row.point

abbrev pub settings_of : List SettingRow → Settings
settings_of orders = map as_setting orders

-- none of so many first orders waits on the device
pub record IsPast (points : List PointRow) (orders : List SettingRow) (device : List ℕ) (past : ℕ) : Type 0 where
  pub in_range : past ≤ length orders
  pub none : All (λ row. waits_on points device (as_setting row) ≡ false) (take past orders)

-- how many first orders were passed, by the names of devices
abbrev pub Past : Type 0
Past = BTreeMap (List ℕ) ℕ

-- how many first orders the device's mark has passed, 0 where it has none
abbrev pub past_in : Past → List ℕ → ℕ
past_in past device = unwrap_or (get (slice_cmp nat_cmp) past device) 0

-- each device's mark is right
abbrev pub ArePast : List PointRow → List SettingRow → Past → Type 0
ArePast points orders past = (device : List ℕ) → IsPast points orders device (past_in past device)

-- none of so many first orders waits at all
pub record AreSettled (orders : List SettingRow) (count : ℕ) : Type 0 where
  pub in_range : count ≤ length orders
  pub none : All (λ row. is_waiting row.state ≡ false) (take count orders)

-- the marks are right
abbrev pub AreRight : List PointRow → List SettingRow → Marks → Type 0
AreRight points orders marks = ArePast points orders marks.past × AreSettled orders marks.settled

-- so many first points are numbered on from 1
pub record AreCounted (points : List PointRow) (count : ℕ) : Type 0 where
  pub in_range : count ≤ length points
  pub numbered : (i : ℕ) (d : PointRow) → i < count → (get_or points i d).number ≡ i + 1

-- what a keeper in memory keeps true of its lists
pub record AreKept (points : List PointRow) (count : ℕ) (histories : List History) (totals : List TotalRow) (orders : List SettingRow) (marks : Marks) : Type 0 where
  pub counted : AreCounted points count
  pub ordered : AreOrdered histories
  pub by_point : IsRising total_point totals
  pub rising : IsRising number_of orders
  pub right : AreRight points orders marks
