-- Rows of readings that are put in one behind the other, by one statement.
use Rattle.std.proofs.Common.{◌≡◌, pos, ◌<◌, ◌≤◌, ◌^◌, List, [], ◌∷◌, map, drop, length, Bool, true, false, not, ◌&&◌, Some, refl, ap, ap₂, if◌then◌else◌}
use Rattle.std.specs.List.{AllByRecursion, list_any}
use Rattle.std.specs.FinMap.Entries as rows
use Rattle.std.proofs.lemmas.Bool.{lt-ltb}
use Rattle.sqlite_value.specs.declared.value.Value.TheVariants.{Null, Int, Blob}
use Rattle.sqlite_value.specs.Order.{Row}
use Rattle.sqlite_value.specs.Keys.{plain}
use Rattle.sqlite_trees.specs.Tree.{put_row}
use Rattle.sqlite_trees.proofs.TreeLemmas.{IsShaped-put_row}
use Rattle.sqlite_schema.specs.Rules.{clashes}
use Rattle.sqlite_rules.specs.declared.error.Rowids.TheVariants.{Chosen}
use Rattle.sqlite_rules.specs.Edit.{next_rowid, is_taken, are_fresh, numbered, put_all}
use Rattle.sqlite_rules.specs.Cast.{cast_row}
use Rattle.poll_book.specs.declared.rows.ReadingRow.{ReadingRow}
use Rattle.poll_book.specs.Tables.{Readings, key_cmp, with_row}
use Rattle.poll_book.specs.Changes.{as_row}
use Rattle.office_store.specs.Kept.{AreReadings}
use Rattle.office_store.specs.Rows.{IsRowOf, shown_reading, stored_reading, register_bytes}
use Rattle.office_store.proofs.FirstRows.{cast_null, cast_int}
use Rattle.office_store.proofs.FreeKeys.{none_before, of_new, of_old, was_free}
use Rattle.office_store.proofs.PutReading.{flag_back, only_free, reading_table}
use Rattle.office_store.proofs.Putting.{put_entry, put_same}
use Rattle.office_store.proofs.Registers.{words_back}
use Rattle.office_store.proofs.Slots.{keys_total}

-- ---- a row's values

abbrev pub values_of : ReadingRow → Row
values_of row = Int (pos row.point) ∷ Int (pos row.slot) ∷ Blob (register_bytes row.words) ∷ Int (if row.counted then pos 1 else pos 0) ∷ []

-- they read back
pub row_of : (row : ReadingRow) → row.point < 2 ^ 32 → row.slot < 2 ^ 32 → 0 < length row.words → length row.words ≤ 125 → IsRowOf row (values_of row)
row_of row a b some few = record {
  are = refl;
  reads = rw (lt-ltb row.point 4294967296 a, lt-ltb row.slot 4294967296 b, words_back row.words some few, flag_back row.point row.slot row.words row.counted row.counted) refl;
}

-- as a statement gives it, whose row has no number yet
abbrev pub unnumbered : ReadingRow → Row
unnumbered row = Null ∷ values_of row

cast_one : (row : ReadingRow) → cast_row reading_table (drop 0 (unnumbered row)) ≡ unnumbered row
cast_one row = rw (cast_null, cast_int (pos row.point), cast_int (pos row.slot), cast_int (if row.counted then pos 1 else pos 0)) refl

cast_each : (added : List ReadingRow) → map (λ s. cast_row reading_table (drop 0 s)) (map unnumbered added) ≡ map unnumbered added
cast_each [] = refl
cast_each (row ∷ added) = ap₂ (λ (r : Row) (rs : List Row). r ∷ rs) (cast_one row) (cast_each added)

-- ---- the rows of the table

-- as it is put behind others
abbrev pub row_behind : List Row → ReadingRow → Row
row_behind all row = Int (next_rowid all) ∷ values_of row

abbrev pub rows_behind : List Row → List ReadingRow → List Row
rows_behind all [] = []
rows_behind all (row ∷ added) = row_behind all row ∷ rows_behind (put_row (row_behind all row) all) added

numbered_so : (all : List Row) (added : List ReadingRow) → numbered Chosen all (map unnumbered added) ≡ rows_behind all added
numbered_so all [] = refl
numbered_so all (row ∷ added) = ap (λ (rs : List Row). row_behind all row ∷ rs) (numbered_so (put_row (row_behind all row) all) added)

-- what the statement adds
pub news_are : (all : List Row) (added : List ReadingRow) → numbered Chosen all (map (λ s. cast_row reading_table (drop 0 s)) (map unnumbered added)) ≡ rows_behind all added
news_are all added = rw (cast_each added) (numbered_so all added)

-- ---- a test of the rows that are put in, and of those before them

both_hold : (b c : Bool) → (not b && c) ≡ true → (b ≡ false) × (c ≡ true)
both_hold true c h = absurd (cc)
both_hold false c h = (refl, h)

none_at_first : (test : Row → Bool) (all news : List Row) → are_fresh all news ≡ true → list_any test (put_all all news) ≡ false → list_any test all ≡ false
none_at_first test all [] fresh none = none
none_at_first test all (r ∷ news) fresh none =
    let both = both_hold (is_taken all r) (are_fresh (put_row r all) news) fresh in
    none_before test r all both.0 (none_at_first test (put_row r all) news both.1 none)

each_at_first : (P : Row → Type 0) (all news : List Row) → are_fresh all news ≡ true → AllByRecursion P (put_all all news) → AllByRecursion P all
each_at_first P all [] fresh h = h
each_at_first P all (r ∷ news) fresh h =
    let both = both_hold (is_taken all r) (are_fresh (put_row r all) news) fresh in
    of_old P r all both.0 (each_at_first P (put_row r all) news both.1 h)

-- ---- what the table stands for

-- these rows stand for the readings
abbrev pub Stand : List Row → Readings → Type 0
Stand all table = AreReadings (λ _. all) table

-- a table with these put in, from the first on
abbrev pub put_in : List ReadingRow → Readings → Readings
put_in [] table = table
put_in (row ∷ added) table = put_in added (with_row (as_row row).0 (as_row row).1 table)

-- no other row has this row's key
abbrev pub IsAlone : List Row → Row → Type 0
IsAlone all row = (not (clashes plain (1 ∷ 2 ∷ []) all row) && true) ≡ true

one_in : (row : ReadingRow) (all : List Row) (table : Readings) → shown_reading (values_of row) ≡ Some (as_row row) → is_taken all (row_behind all row) ≡ false
    → clashes plain (1 ∷ 2 ∷ []) (put_row (row_behind all row) all) (row_behind all row) ≡ false → Stand all table
    → Stand (put_row (row_behind all row) all) (with_row (as_row row).0 (as_row row).1 table)
one_in row all table reads free clear was =
    let new = row_behind all row in
    let none = was_free row.point row.slot new refl refl refl all was.entries table was.stored was.same was.numbered.1 free clear in
    let put = put_entry stored_reading new (as_row row) reads all was.entries was.stored free in
    record {
      entries = put.entries;
      stored = put.stand;
      numbered = IsShaped-put_row new all refl was.numbered;
      same = put_same key_cmp (as_row row).0 (as_row row).1 was.entries put.entries table was.same none put.same;
      sorted = rows.is_sorted-put key_cmp keys_total (as_row row).0 (as_row row).1 table was.sorted;
    }

-- rows at free numbers, of which no two have one key, stand for the readings with these put in
pub all_in : (added : List ReadingRow) (all : List Row) (table : Readings) → AllByRecursion (λ row. shown_reading (values_of row) ≡ Some (as_row row)) added
    → are_fresh all (rows_behind all added) ≡ true → AllByRecursion (IsAlone (put_all all (rows_behind all added))) (put_all all (rows_behind all added))
    → Stand all table → Stand (put_all all (rows_behind all added)) (put_in added table)
all_in [] all table read fresh alone was = was
all_in (row ∷ added) all table read fresh alone was =
    let new = row_behind all row in
    let more = put_row new all in
    let end = put_all more (rows_behind more added) in
    let both = both_hold (is_taken all new) (are_fresh more (rows_behind more added)) fresh in
    let own = only_free _ (of_new (IsAlone end) new all (each_at_first (IsAlone end) more (rows_behind more added) both.1 alone)) in
    let clear : clashes plain (1 ∷ 2 ∷ []) more new ≡ false = none_at_first _ more (rows_behind more added) both.1 own in
    all_in added more (with_row (as_row row).0 (as_row row).1 table) read.1 both.1 alone (one_in row all table read.0 both.0 clear was)
