-- What a keeper holds, and what is written to it.
use Rattle.std.specs.Prelude.{◌≡◌, ℕ, ◌<◌, ◌≤◌, All, Contains, T, ⊤, true, List, [], ◌∷◌, length, Option, Some, None}
use Rattle.mb_pdu.specs.declared.reply.Reply.{Reply}
use Rattle.mb_pdu.specs.declared.reply.Reply.TheVariants.{Excepted}
use Rattle.point_list.specs.declared.site.Site.{Site}
use Rattle.poll_match.specs.declared.asked.Asked.{Asked}
use Rattle.poll_match.specs.declared.asked.Asked.TheVariants as asked
use Rattle.poll_book.specs.declared.rows.Change.{Change}
use Rattle.std.specs.FinMap.Entries as rows
use Rattle.poll_book.specs.declared.rows.PointRow.{PointRow}
use Rattle.poll_book.specs.declared.rows.Reading.{Reading}
use Rattle.poll_book.specs.declared.rows.SettingRow.{SettingRow}
use Rattle.poll_book.specs.declared.requests.RequestRow.{RequestRow}
use Rattle.poll_book.specs.declared.rows.OrderState.{OrderState}
use Rattle.poll_book.specs.declared.rows.OrderState.TheVariants.{Done}
use Rattle.poll_book.specs.Changes.{AreNumbered, keyed}
use Rattle.office_core.specs.declared.event.Arrival.{Arrival}
use Rattle.office_core.specs.declared.event.Arrival.TheVariants as arrival
use Rattle.office_core.specs.Cover.{given_at, reply_cells}
use Rattle.office_core.specs.Orders.{state_after, settle}
use Rattle.read_planner.specs.declared.Read.{Read}
use Rattle.office_core.specs.declared.cover.Asking.{Asking}
use Rattle.poll_book.specs.Tables.{AreByKey, Key, key_cmp, Tables, Readings, marked, new_rows, with_rows}
use Rattle.poll_book.specs.Totals.{is_counted, totals_of}

-- a reading is of a point that is there, and counts for it where it is marked so
pub record IsOfPoint (points : List PointRow) (row : Key × Reading) : Type 0 where
  pub point : PointRow
  pub there : Contains points point
  pub number : point.number ≡ row.0.0
  pub counts : row.1.counted ≡ true → is_counted point.point row.1.words ≡ true

-- points are numbered, readings and voids lie by key, readings are of points, and what is stored of each counter is its total
pub record IsCounted (kept : Tables) : Type 0 where
  pub points : AreNumbered 0 kept.points
  pub by_key : AreByKey kept.readings
  pub void_keys : T (rows.is_sorted key_cmp kept.voids)
  pub of_points : All (IsOfPoint kept.points) kept.readings
  pub known : All (λ row. row.0.0 ≤ length kept.points) kept.readings
  pub totals : kept.totals ≡ totals_of kept.points kept.readings

-- the copy of the points is the keeper's
abbrev pub IsCopy : List PointRow → Tables → Type 0
IsCopy known kept = (known ≡ kept.points) × IsCounted kept

-- rows of rising points above a number
abbrev pub Rises : ℕ → Readings → Type 0
Rises n [] = ⊤
Rises n (row ∷ rest) = (n < row.0.0) × Rises row.0.0 rest

-- covered points are points that are known, and rise
pub record AreCovered (points : List PointRow) (slot : ℕ) (covered : List (PointRow × List ℕ)) : Type 0 where
  pub known : All (λ c. Contains points c.0) covered
  pub rise : Rises 0 (keyed slot covered)

-- a change of nothing
abbrev pub no_change : Change
no_change = record { points = []; readings = []; totals = []; void = None; setting = None; request = None; connections = None }

-- a change that keeps a request, with points or a setting
abbrev pub asked_change : List PointRow → Option SettingRow → RequestRow → Change
asked_change points setting request = record { points = points; readings = []; totals = []; void = None; setting = setting; request = Some request; connections = None }

-- the tables with these readings, and the totals of all
abbrev pub with_readings : Readings → Tables → Tables
with_readings table kept = record kept { readings = table; totals = totals_of kept.points table }

-- the tables with these readings, where there were none; in slots that are voided they don't count
abbrev pub with_given : Readings → Tables → Tables
with_given rows kept = with_readings (with_rows (new_rows kept.readings (marked kept.voids rows)) kept.readings) kept

-- the tables with an order settled so, where it waits
abbrev pub with_state : ℕ → Option OrderState → Tables → Tables
with_state order state kept = record kept { settings = settle order state kept.settings }

-- ---- what a reply brings

-- the rows of a reply to a read
abbrev pub rows_at : Site → List PointRow → Asking → Reply → Readings
rows_at site known asking reply = keyed asking.slot (given_at site known asking (reply_cells reply))

abbrev pub brought_read : Site → List PointRow → Asking → Reply → Tables → Tables
brought_read site known asking (Excepted code) kept = kept
brought_read site known asking reply kept = with_given (rows_at site known asking reply) kept

abbrev pub read_arrival : Site → List PointRow → Asking → Reply → Tables → Arrival
read_arrival site known asking (Excepted code) kept = arrival.Excepted code
read_arrival site known asking reply kept = arrival.Recorded (length (new_rows kept.readings (rows_at site known asking reply)))

-- how an order stands after a reply to what was sent for it, if the reply settles it
abbrev pub reply_state : Reply → Option OrderState
reply_state (Excepted code) = state_after code
reply_state reply = Some Done

abbrev pub write_arrival : Reply → Arrival
write_arrival (Excepted code) = arrival.Excepted code
write_arrival reply = arrival.Settled

-- what is kept of a read, but for its unit identifier
abbrev pub asking_of : ℕ → ℕ → Read → ℕ → Asking
asking_of place slot read before = record { device = place; slot = slot; read = read; known = before }

-- the tables after a reply to a query, and what it is told as
abbrev pub brought : Site → List PointRow → Asked → Reply → Tables → Tables
brought site known (asked.Read unit_id place slot read before) reply kept = brought_read site known (asking_of place slot read before) reply kept
brought site known (asked.Write unit_id order address payload) reply kept = with_state order (reply_state reply) kept

abbrev pub arrival_of : Site → List PointRow → Asked → Reply → Tables → Arrival
arrival_of site known (asked.Read unit_id place slot read before) reply kept = read_arrival site known (asking_of place slot read before) reply kept
arrival_of site known (asked.Write unit_id order address payload) reply kept = write_arrival reply
