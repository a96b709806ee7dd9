-- Rows that are written together.
use Rattle.std.specs.Prelude.{◌≡◌, ℕ, ◌+◌, Option, Some, None, ⊤, List, [], ◌∷◌, ◌++◌, map, filter, filter_map, is_none, is_some, unwrap_or, ◌&&◌, if◌then◌else◌, All, Bool, true, false}
use Rattle.poll_book.specs.declared.rows.PointRow.{PointRow}
use Rattle.poll_book.specs.declared.rows.Reading.{Reading}
use Rattle.poll_book.specs.declared.rows.ReadingRow.{ReadingRow}
use Rattle.poll_book.specs.declared.rows.TotalRow.{TotalRow}
use Rattle.poll_book.specs.declared.rows.VoidRow.{VoidRow}
use Rattle.poll_book.specs.declared.rows.SettingRow.{SettingRow}
use Rattle.poll_book.specs.declared.rows.OrderState.TheVariants.{Waiting}
use Rattle.poll_book.specs.declared.rows.Change.{Change}
use Rattle.poll_book.specs.declared.requests.RequestRow.{RequestRow}
use Rattle.poll_book.specs.Tables.{Tables, Key, Readings, Voids, Sums, with_row, with_rows, reading_at, is_void, with_void, marked_one, sum_at, with_sums}
use Rattle.poll_book.specs.Orders.{Settings, is_waiting, setting_at, with_setting, last_order, as_setting}
use Rattle.poll_book.specs.Requests.{Requests, request_at, with_request, as_request}
use Rattle.poll_book.specs.Totals.{is_counter, is_counted, reading_number, total, totals_of}

abbrev pub as_row : ReadingRow → Key × Reading
as_row row = ((row.point, row.slot), record { words = row.words; counted = row.counted })

abbrev pub as_rows : List ReadingRow → Readings
as_rows added = map as_row added

abbrev pub as_sum : TotalRow → ℕ × ℕ
as_sum row = (row.point, row.total)

abbrev pub as_sums : List TotalRow → Sums
as_sums rows = map as_sum rows

abbrev pub void_key : VoidRow → Key
void_key row = (row.point, row.slot)

-- voids with the pair put in, if there is one
abbrev pub with_voided : Option VoidRow → Voids → Voids
with_voided None table = table
with_voided (Some row) table = with_void (void_key row) table

-- settings with the row put in, if there is one
abbrev pub with_order : Option SettingRow → Settings → Settings
with_order None table = table
with_order (Some row) table = with_setting row.number (as_setting row).1 table

-- requests with the row put in, if there is one
abbrev pub with_asked : Option RequestRow → Requests → Requests
with_asked None table = table
with_asked (Some row) table = with_request (row.caller, row.key) (as_request row).1 table

-- the tables with a change applied. The total of a counter that is accepted is 0
abbrev pub applied : Change → Tables → Tables
applied change kept = record {
  points = kept.points ++ change.points;
  readings = with_rows (as_rows change.readings) kept.readings;
  voids = with_voided change.void kept.voids;
  totals = with_sums (as_sums change.totals) (with_sums (totals_of change.points []) kept.totals);
  settings = with_order change.setting kept.settings;
  requests = with_asked change.request kept.requests;
  connections = unwrap_or change.connections kept.connections;
}

-- the reading of a covered point in a slot
abbrev pub keyed_one : ℕ → PointRow × List ℕ → Key × Reading
keyed_one slot c = ((c.0.number, slot), record { words = c.1; counted = is_counted c.0.point c.1 })

-- readings of covered points, in one slot
abbrev pub keyed : ℕ → List (PointRow × List ℕ) → Readings
keyed slot covered = map (keyed_one slot) covered

-- the total of a covered point with its reading, where the table lacks this and it counts
abbrev pub new_sum : Voids → Readings → ℕ → PointRow × List ℕ → Option (ℕ × ℕ)
new_sum voids table slot c =
    let row = marked_one voids (keyed_one slot c) in
    if is_none (reading_at table row.0) && row.1.counted then Some (c.0.number, total c.0 (with_row row.0 row.1 table)) else None

-- the totals that change by readings of covered points in one slot
abbrev pub new_sums : Voids → Readings → ℕ → List (PointRow × List ℕ) → Sums
new_sums voids table slot covered = filter_map (new_sum voids table slot) covered

-- registers as a reading that doesn't count
abbrev pub uncounted : List ℕ → Reading
uncounted words = record { words = words; counted = false }

-- a reading that counts, as one that doesn't
abbrev pub struck_row : PointRow → Key → Option Reading → Readings
struck_row known key None = []
struck_row known key (Some reading) =
    if is_some (reading_number known.point reading) then (key, uncounted reading.words) ∷ [] else []

-- the reading that a total loses where a slot of its point is voided
abbrev pub struck : Tables → PointRow → ℕ → Readings
struck kept known slot =
    if is_void kept.voids (known.number, slot) then [] else struck_row known (known.number, slot) (reading_at kept.readings (known.number, slot))

-- the total of a point with each of these readings put in
abbrev pub sums_of_rows : PointRow → Readings → Readings → Sums
sums_of_rows known table added = map (λ row. (known.number, total known (with_row row.0 row.1 table))) added

-- and the total without it
abbrev pub struck_sums : Tables → PointRow → ℕ → Sums
struck_sums kept known slot = sums_of_rows known kept.readings (struck kept known slot)

-- the pair, if it isn't voided yet
abbrev pub new_void : Voids → PointRow → ℕ → Option VoidRow
new_void voids known slot = if is_void voids (known.number, slot) then None else Some (record { point = known.number; slot = slot })

-- what is stored of each of these points that is a counter is its total
abbrev pub HaveTotals : Tables → List (PointRow × List ℕ) → Type 0
HaveTotals kept covered = All (λ c. is_counter c.0.point.role ≡ true → sum_at kept.totals c.0.number ≡ Some (total c.0 kept.readings)) covered

-- points that are numbered on from a number
abbrev pub AreNumbered : ℕ → List PointRow → Type 0
AreNumbered n [] = ⊤
AreNumbered n (row ∷ rest) = (row.number ≡ n + 1) × AreNumbered (n + 1) rest

-- a reading that is there has these words
abbrev pub HasWords : List ℕ → Option Reading → Type 0
HasWords words None = ⊤
HasWords words (Some there) = there.words ≡ words

-- rows under different keys, none of which changes the words of one that the table has
abbrev pub KeepWords : Readings → Readings → Type 0
KeepWords table [] = ⊤
KeepWords table (row ∷ added) = HasWords row.1.words (reading_at table row.0) × (reading_at added row.0 ≡ None) × KeepWords table added

-- the numbers of those points that are counters
abbrev pub counters : List PointRow → List ℕ
counters points = map (λ known. known.number) (filter (λ known. is_counter known.point.role) points)

-- each of these totals is one that the table has
abbrev pub AreThere : Sums → Sums → Type 0
AreThere table [] = ⊤
AreThere table (row ∷ rest) = (is_some (sum_at table row.0) ≡ true) × AreThere table rest

-- an order that waits is the next one; one that is settled waited, and sets what it set
abbrev pub IsNextOrSettledAs : Bool → Settings → SettingRow → Type 0
IsNextOrSettledAs true table row = row.number ≡ last_order table + 1
IsNextOrSettledAs false table row = setting_at table row.number ≡ Some (record { point = row.point; words = row.words; state = Waiting })

abbrev pub IsNextOrSettled : Settings → Option SettingRow → Type 0
IsNextOrSettled table None = ⊤
IsNextOrSettled table (Some row) = IsNextOrSettledAs (is_waiting row.state) table row

-- a request under a key that was not used
abbrev pub IsUnused : Requests → Option RequestRow → Type 0
IsUnused table None = ⊤
IsUnused table (Some row) = request_at table (row.caller, row.key) ≡ None

-- a pair that was not voided
abbrev pub IsNotVoided : Voids → Option VoidRow → Type 0
IsNotVoided table None = ⊤
IsNotVoided table (Some row) = is_void table (void_key row) ≡ false

-- What a keeper need not test of a change. Of rows that are kept it writes over a total, the mark of a reading, and how an order stands
pub record IsNew (change : Change) (kept : Tables) : Type 0 where
  pub points : AreNumbered 0 (kept.points ++ change.points)
  pub readings : KeepWords kept.readings (as_rows change.readings)
  pub void : IsNotVoided kept.voids change.void
  pub totals : map (λ row. row.0) kept.totals ≡ counters kept.points
  pub sums : AreThere kept.totals (as_sums change.totals)
  pub setting : IsNextOrSettled kept.settings change.setting
  pub request : IsUnused kept.requests change.request
