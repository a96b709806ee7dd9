-- The tables of an office. Readings, voids, settings and requests are finite maps: the list of the rows in the order of their keys.
use Rattle.std.specs.Prelude.{ℕ, Bool, T, not, ◌&&◌, ◌==◌, nat_le, List, [], ◌∷◌, map, filter, Option, is_none, is_some, ⊤}
use Rattle.std.specs.Ordering.{nat_cmp, ordering_then}
use Rattle.std.specs.declared.cmp.Ordering.{Ordering}
use Rattle.std.specs.FinMap.Entries as rows
use Rattle.poll_book.specs.declared.rows.PointRow.{PointRow}
use Rattle.poll_book.specs.declared.rows.Reading.{Reading}
use Rattle.poll_book.specs.Orders.{Settings}
use Rattle.poll_book.specs.Requests.{Requests}

-- a point's number and a slot
abbrev pub Key : Type 0
Key = ℕ × ℕ

-- by point, and then by slot
abbrev pub key_cmp : Key → Key → Ordering
key_cmp a b = ordering_then (nat_cmp a.0 b.0) (nat_cmp a.1 b.1)

-- the first and the last slot of a report are at most so far apart
abbrev pub most_apart : ℕ
most_apart = 9999

abbrev pub Readings : Type 0
Readings = List (Key × Reading)

-- the rows stand in the order of their keys, each under a key of its own
abbrev pub AreByKey : Readings → Type 0
AreByKey table = T (rows.is_sorted key_cmp table)

-- what is there of a point in a slot
abbrev pub reading_at : Readings → Key → Option Reading
reading_at table key = rows.find key_cmp key table

-- a table with the row put in
abbrev pub with_row : Key → Reading → Readings → Readings
with_row key reading table = rows.put key_cmp key reading table

-- a table with these rows put in. Of two rows with one key the first decides
abbrev pub with_rows : Readings → Readings → Readings
with_rows [] table = table
with_rows (row ∷ added) table = with_row row.0 row.1 (with_rows added table)

-- those of the rows that the table lacks
abbrev pub new_rows : Readings → Readings → Readings
new_rows table given = filter (λ row. is_none (reading_at table row.0)) given

abbrev pub is_between : ℕ → ℕ → ℕ → Key → Bool
is_between point from to key = key.0 == point && nat_le from key.1 && nat_le key.1 to

-- the readings of a point in the slots from the one to the other
abbrev pub readings_between : ℕ → ℕ → ℕ → Readings → Readings
readings_between point from to table = filter (λ row. is_between point from to row.0) table

-- the slots of counters that don't count, each as a point's number and a slot: the list of the pairs in this order
abbrev pub Voids : Type 0
Voids = List (Key × ⊤)

-- the slot of a point is voided
abbrev pub is_void : Voids → Key → Bool
is_void voids key = is_some (rows.find key_cmp key voids)

-- voids with the pair put in
abbrev pub with_void : Key → Voids → Voids
with_void key voids = rows.put key_cmp key tt voids

-- a reading, which doesn't count in a slot that is voided
abbrev pub marked_one : Voids → Key × Reading → Key × Reading
marked_one voids row = (row.0, record { words = row.1.words; counted = not (is_void voids row.0) && row.1.counted })

abbrev pub marked : Voids → Readings → Readings
marked voids table = map (marked_one voids) table

-- a stored total for each counter, by the counters' numbers: the list of their rows in this order
abbrev pub Sums : Type 0
Sums = List (ℕ × ℕ)

-- what is stored of the point of this number
abbrev pub sum_at : Sums → ℕ → Option ℕ
sum_at table number = rows.find nat_cmp number table

abbrev pub with_sum : ℕ → ℕ → Sums → Sums
with_sum number sum table = rows.put nat_cmp number sum table

-- a table with these put in. Of two rows with one number the first decides
abbrev pub with_sums : Sums → Sums → Sums
with_sums [] table = table
with_sums (row ∷ added) table = with_sum row.0 row.1 (with_sums added table)

-- what an office keeps
pub record Tables : Type 0 where
  pub points : List PointRow
  pub readings : Readings
  pub voids : Voids
  pub totals : Sums
  pub settings : Settings
  pub requests : Requests
  pub connections : ℕ

abbrev pub no_tables : Tables
no_tables = record { points = []; readings = []; voids = []; totals = []; settings = []; requests = []; connections = 0 }

-- what is held in the one is held in the other
abbrev pub Within : (Tables → Type 0) → (Tables → Type 0) → Type 0
Within old new = (kept : Tables) → old kept → new kept
