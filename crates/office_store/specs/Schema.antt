-- The tables of a store, as SQL understands the texts that make them.
use Rattle.std.specs.Prelude.{true, false, [], ◌∷◌, None, Some, codes, List, ℕ, pos, Bool}
use Rattle.sqlite_value.specs.declared.keys.Collation.TheVariants.{Binary}
use Rattle.sqlite_value.specs.declared.value.Value.TheVariants.{Null, Int}
use Rattle.sqlite_sql.specs.declared.ops.BinaryOp.TheVariants.{Compare, Or}
use Rattle.sqlite_sql.specs.declared.ops.CompareOp.TheVariants.{Eq}
use Rattle.sqlite_sql.specs.Term.{lit, col, op2}
use Rattle.sqlite_schema.specs.declared.schema.Column.{Column}
use Rattle.sqlite_schema.specs.declared.schema.Reference.{Reference}
use Rattle.sqlite_schema.specs.declared.schema.Action.TheVariants.{NoAction}
use Rattle.sqlite_schema.specs.declared.schema.Table.{Table}
use Rattle.sqlite_schema.specs.declared.schema.Schema.{Schema}
use Rattle.sqlite_schema.specs.declared.schema.Kind.{Kind}
use Rattle.sqlite_schema.specs.declared.schema.Kind.TheVariants.{Integer, Text, Blob}
use Rattle.sqlite_value.specs.Keys.{plain}
use Rattle.sqlite_catalog.specs.Change.{created}

abbrev pub meta_text : List ℕ
meta_text = codes "CREATE TABLE meta(name TEXT NOT NULL PRIMARY KEY, value INTEGER NOT NULL) STRICT"

abbrev pub point_text : List ℕ
point_text = codes "CREATE TABLE point(number INTEGER PRIMARY KEY, name TEXT NOT NULL UNIQUE, device TEXT NOT NULL, tab INTEGER NOT NULL, addr INTEGER NOT NULL, kind INTEGER NOT NULL, len INTEGER NOT NULL, scale INTEGER NOT NULL, role INTEGER NOT NULL, roll BLOB NOT NULL) STRICT"

abbrev pub reading_text : List ℕ
reading_text = codes "CREATE TABLE reading(point INTEGER NOT NULL REFERENCES point(number), slot INTEGER NOT NULL, words BLOB NOT NULL, counted INTEGER NOT NULL CHECK(counted IN (0,1)), PRIMARY KEY(point, slot)) STRICT"

abbrev pub setting_text : List ℕ
setting_text = codes "CREATE TABLE setting(number INTEGER PRIMARY KEY, point INTEGER NOT NULL REFERENCES point(number), words BLOB NOT NULL, state INTEGER NOT NULL, code INTEGER NOT NULL) STRICT"

abbrev pub request_text : List ℕ
request_text = codes "CREATE TABLE request(caller TEXT NOT NULL, rkey TEXT NOT NULL, kind INTEGER NOT NULL, body BLOB NOT NULL, answer INTEGER NOT NULL, a INTEGER NOT NULL, b INTEGER NOT NULL, c INTEGER NOT NULL, PRIMARY KEY(caller, rkey)) STRICT"

abbrev pub total_text : List ℕ
total_text = codes "CREATE TABLE total(point INTEGER PRIMARY KEY REFERENCES point(number), value BLOB NOT NULL) STRICT"

abbrev pub void_text : List ℕ
void_text = codes "CREATE TABLE void(point INTEGER NOT NULL REFERENCES point(number), slot INTEGER NOT NULL, PRIMARY KEY(point, slot)) STRICT"

abbrev pub swapped_text : List ℕ
swapped_text = codes "CREATE TABLE swapped(point INTEGER PRIMARY KEY REFERENCES point(number)) STRICT"

abbrev pub strict : List ℕ → Kind → Bool → Column
strict name kind required = record { name = name; kind = kind; is_strict = true; not_null = required; default = Null; collation = Binary }

abbrev pub number : List ℕ → Column
number name = strict name Integer true

abbrev pub word : List ℕ → Column
word name = strict name Text true

abbrev pub bytes : List ℕ → Column
bytes name = strict name Blob true

abbrev pub to_point : Reference
to_point = record { columns = 1 ∷ []; parent = codes "point"; parent_columns = codes "number" ∷ []; on_delete = NoAction; on_update = NoAction; is_deferred = false }

abbrev pub meta : Table
meta = record {
  name = codes "meta";
  tree = 0;
  columns = word (codes "name") ∷ number (codes "value") ∷ [];
  key = None;
  primary = 1 ∷ [];
  uniques = (1 ∷ []) ∷ [];
  orders = plain ∷ [];
  checks = [];
  references = [];
  computed = [];
  stamps = record { places = []; terms = []; formats = [] };
  is_counted = false;
}

abbrev pub point : Table
point = record {
  name = codes "point";
  tree = 0;
  columns = strict (codes "number") Integer false ∷ word (codes "name") ∷ word (codes "device") ∷ number (codes "tab") ∷ number (codes "addr") ∷ number (codes "kind") ∷ number (codes "len") ∷ number (codes "scale") ∷ number (codes "role") ∷ bytes (codes "roll") ∷ [];
  key = Some 0;
  primary = 0 ∷ [];
  uniques = (2 ∷ []) ∷ [];
  orders = plain ∷ [];
  checks = [];
  references = [];
  computed = [];
  stamps = record { places = []; terms = []; formats = [] };
  is_counted = false;
}

abbrev pub reading : Table
reading = record {
  name = codes "reading";
  tree = 0;
  columns = number (codes "point") ∷ number (codes "slot") ∷ bytes (codes "words") ∷ number (codes "counted") ∷ [];
  key = None;
  primary = 1 ∷ 2 ∷ [];
  uniques = (1 ∷ 2 ∷ []) ∷ [];
  orders = plain ∷ [];
  checks = op2 Or (op2 (Compare Eq Binary) (col 1 4) (lit (Int (pos 0)))) (op2 (Compare Eq Binary) (col 1 4) (lit (Int (pos 1)))) ∷ [];
  references = to_point ∷ [];
  computed = [];
  stamps = record { places = []; terms = []; formats = [] };
  is_counted = false;
}

abbrev pub setting : Table
setting = record {
  name = codes "setting";
  tree = 0;
  columns = strict (codes "number") Integer false ∷ number (codes "point") ∷ bytes (codes "words") ∷ number (codes "state") ∷ number (codes "code") ∷ [];
  key = Some 0;
  primary = 0 ∷ [];
  uniques = [];
  orders = [];
  checks = [];
  references = record to_point { columns = 2 ∷ [] } ∷ [];
  computed = [];
  stamps = record { places = []; terms = []; formats = [] };
  is_counted = false;
}

abbrev pub request : Table
request = record {
  name = codes "request";
  tree = 0;
  columns = word (codes "caller") ∷ word (codes "rkey") ∷ number (codes "kind") ∷ bytes (codes "body") ∷ number (codes "answer") ∷ number (codes "a") ∷ number (codes "b") ∷ number (codes "c") ∷ [];
  key = None;
  primary = 1 ∷ 2 ∷ [];
  uniques = (1 ∷ 2 ∷ []) ∷ [];
  orders = plain ∷ [];
  checks = [];
  references = [];
  computed = [];
  stamps = record { places = []; terms = []; formats = [] };
  is_counted = false;
}

abbrev pub total : Table
total = record {
  name = codes "total";
  tree = 0;
  columns = strict (codes "point") Integer false ∷ bytes (codes "value") ∷ [];
  key = Some 0;
  primary = 0 ∷ [];
  uniques = [];
  orders = [];
  checks = [];
  references = record to_point { columns = 0 ∷ [] } ∷ [];
  computed = [];
  stamps = record { places = []; terms = []; formats = [] };
  is_counted = false;
}

abbrev pub void : Table
void = record {
  name = codes "void";
  tree = 0;
  columns = number (codes "point") ∷ number (codes "slot") ∷ [];
  key = None;
  primary = 1 ∷ 2 ∷ [];
  uniques = (1 ∷ 2 ∷ []) ∷ [];
  orders = plain ∷ [];
  checks = [];
  references = to_point ∷ [];
  computed = [];
  stamps = record { places = []; terms = []; formats = [] };
  is_counted = false;
}

abbrev pub swapped : Table
swapped = record {
  name = codes "swapped";
  tree = 0;
  columns = strict (codes "point") Integer false ∷ [];
  key = Some 0;
  primary = 0 ∷ [];
  uniques = [];
  orders = [];
  checks = [];
  references = record to_point { columns = 0 ∷ [] } ∷ [];
  computed = [];
  stamps = record { places = []; terms = []; formats = [] };
  is_counted = false;
}

abbrev pub no_schema : Schema
no_schema = record { tables = []; indexes = []; views = [] }

abbrev pub office_schema : Schema
office_schema = created (created (created (created (created (created (created (created no_schema meta) point) reading) setting) request) total) void) swapped

-- the trees of the tables, in the order in which they are made; the others are their keys
abbrev pub meta_tree : ℕ
meta_tree = 0

abbrev pub point_tree : ℕ
point_tree = 2

abbrev pub reading_tree : ℕ
reading_tree = 4

abbrev pub setting_tree : ℕ
setting_tree = 6

abbrev pub request_tree : ℕ
request_tree = 7

abbrev pub total_tree : ℕ
total_tree = 9

abbrev pub void_tree : ℕ
void_tree = 10

abbrev pub swapped_tree : ℕ
swapped_tree = 12
