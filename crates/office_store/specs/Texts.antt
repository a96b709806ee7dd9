-- The texts of the queries.
use Rattle.std.specs.Prelude.{List, ℕ, codes}

abbrev pub version_text : List ℕ
version_text = codes "SELECT value FROM meta WHERE name = 'version'"

abbrev pub names_text : List ℕ
names_text = codes "SELECT name FROM sqlite_schema LIMIT 1"

abbrev pub readings_text : List ℕ
readings_text = codes "SELECT point, slot, words, counted FROM reading WHERE point = ?1 AND slot >= ?2 AND slot <= ?3 ORDER BY slot"

abbrev pub reading_key_text : List ℕ
reading_key_text = codes "SELECT point, slot FROM reading WHERE point = ?1 AND slot = ?2"

abbrev pub value_before_text : List ℕ
value_before_text = codes "SELECT point, slot, words, counted FROM reading WHERE point = ?1 AND slot < ?2 AND counted = 1 ORDER BY slot DESC LIMIT 1"

abbrev pub value_after_text : List ℕ
value_after_text = codes "SELECT point, slot, words, counted FROM reading WHERE point = ?1 AND slot > ?2 AND counted = 1 ORDER BY slot LIMIT 1"

abbrev pub last_reading_text : List ℕ
last_reading_text = codes "SELECT point, slot, words, counted FROM reading WHERE point = ?1 ORDER BY slot DESC LIMIT 1"

abbrev pub points_text : List ℕ
points_text = codes "SELECT number, name, device, tab, addr, kind, len, scale, role, roll FROM point ORDER BY number"

abbrev pub point_text : List ℕ
point_text = codes "SELECT number, name, device, tab, addr, kind, len, scale, role, roll FROM point WHERE number = ?1 ORDER BY number"

abbrev pub setting_text : List ℕ
setting_text = codes "SELECT number, point, words, state, code FROM setting WHERE number = ?1 ORDER BY number"

abbrev pub connections_text : List ℕ
connections_text = codes "SELECT value FROM meta WHERE name = 'connections'"

abbrev pub request_text : List ℕ
request_text = codes "SELECT caller, rkey, kind, body, answer, a, b, c FROM request WHERE caller = ?1 AND rkey = ?2"

abbrev pub total_text : List ℕ
total_text = codes "SELECT point, value FROM total WHERE point = ?1 ORDER BY point"

abbrev pub next_void_text : List ℕ
next_void_text = codes "SELECT point, slot FROM void WHERE point = ?1 AND slot >= ?2 ORDER BY slot LIMIT 1"

abbrev pub void_slots_text : List ℕ
void_slots_text = codes "SELECT point, slot FROM void WHERE point = ?1 AND slot >= ?2 AND slot <= ?3 ORDER BY slot"

abbrev pub voids_text : List ℕ
voids_text = codes "SELECT COUNT(*) FROM void"

abbrev pub last_text : List ℕ
last_text = codes "SELECT number, point, words, state, code FROM setting ORDER BY number DESC LIMIT 1"

abbrev pub waiting_text : List ℕ
waiting_text = codes "SELECT number, point, words, state, code FROM setting WHERE state = 0 ORDER BY number"

abbrev pub swaps_text : List ℕ
swaps_text = codes "SELECT point FROM swapped ORDER BY point"
