-- What the texts of the statements mean, by running the resolver on them.
use Rattle.std.proofs.Common.{◌≡◌, Ok, refl, List, [], ◌∷◌, ℕ, codes, pos, None, false, negsuc}
use Rattle.sqlite.specs.Compile.{table_defined_by}
use Rattle.sqlite.specs.Listing.{understood}
use Rattle.sqlite.proofs.Callers.{IsPlain, command_of, statement_of}
use Rattle.sqlite_tied.specs.Compute.{everything}
use Rattle.sqlite_value.specs.declared.value.Value.TheVariants.{Null, Int, Text}
use Rattle.sqlite_sql.specs.Term.{Term, lit, col, op2}
use Rattle.sqlite_sql.specs.Query.{Query, inner, end}
use Rattle.sqlite_sql.specs.declared.ops.BinaryOp.TheVariants.{Compare}
use Rattle.sqlite_sql.specs.declared.ops.CompareOp.TheVariants.{Eq}
use Rattle.sqlite_value.specs.declared.keys.Collation.TheVariants.{Binary}
use Rattle.sqlite_schema.specs.declared.command.Command.TheVariants.{CreateTable, Insert, Update}
use Rattle.sqlite_schema.specs.declared.command.Source.TheVariants.{Values}
use Rattle.sqlite_schema.specs.declared.schema.Schema.{Schema}
use Rattle.sqlite_catalog.specs.Change.{created}
use Rattle.office_store.specs.Schema.{meta_text, point_text, reading_text, setting_text, request_text, total_text, void_text, swapped_text, meta, point, reading, setting, request, total, void, swapped, no_schema, office_schema}
use Rattle.office_store.specs.Blank.{first_schema, six_schema}

pub tables_are : (table_defined_by meta_text ≡ Ok meta) × (table_defined_by point_text ≡ Ok point) × (table_defined_by reading_text ≡ Ok reading) × (table_defined_by setting_text ≡ Ok setting) × (table_defined_by request_text ≡ Ok request) × (table_defined_by total_text ≡ Ok total) × (table_defined_by void_text ≡ Ok void) × (table_defined_by swapped_text ≡ Ok swapped)
unfolding everything
tables_are = (refl, refl, refl, refl, refl, refl, refl, refl)

abbrev pub one : Schema
one = created no_schema meta

abbrev pub two : Schema
two = created one point

abbrev pub four : Schema
four = created first_schema setting

abbrev pub five : Schema
five = created four request

abbrev pub seven : Schema
seven = created six_schema void

abbrev pub IsMade : Schema → List ℕ → Type 0
IsMade schema text = (command_of (understood schema text) ≡ CreateTable) × (statement_of text (understood schema text) ≡ text) × IsPlain (understood schema text)

pub meta_made : IsMade no_schema meta_text
unfolding understood everything
meta_made = (refl, refl, (refl, refl))

pub point_made : IsMade one point_text
unfolding understood everything
point_made = (refl, refl, (refl, refl))

pub reading_made : IsMade two reading_text
unfolding understood everything
reading_made = (refl, refl, (refl, refl))

pub setting_made : IsMade first_schema setting_text
unfolding understood everything
setting_made = (refl, refl, (refl, refl))

pub request_made : IsMade four request_text
unfolding understood everything
request_made = (refl, refl, (refl, refl))

pub total_made : IsMade five total_text
unfolding understood everything
total_made = (refl, refl, (refl, refl))

pub void_made : IsMade six_schema void_text
unfolding understood everything
void_made = (refl, refl, (refl, refl))

pub swapped_made : IsMade seven swapped_text
unfolding understood everything
swapped_made = (refl, refl, (refl, refl))

abbrev pub numbers_text : List ℕ
numbers_text = codes "INSERT INTO meta(name, value) VALUES ('version', 2), ('connections', 0)"

abbrev pub numbers_terms : List Term
numbers_terms = lit Null ∷ lit (Text (codes "version")) ∷ lit (Int (pos 2)) ∷ lit Null ∷ lit (Text (codes "connections")) ∷ lit (Int (pos 0)) ∷ []

pub numbers_are : (command_of (understood office_schema numbers_text) ≡ Insert 0 (Values numbers_terms 3)) × IsPlain (understood office_schema numbers_text)
unfolding understood everything
numbers_are = (refl, (refl, refl))

abbrev pub put_reading_text : List ℕ
put_reading_text = codes "INSERT INTO reading(point, slot, words, counted) VALUES (?1, ?2, ?3, ?4)"

abbrev pub put_reading_terms : List Term
put_reading_terms = lit Null ∷ col 0 0 ∷ col 0 1 ∷ col 0 2 ∷ col 0 3 ∷ []

pub put_reading_is : (command_of (understood office_schema put_reading_text) ≡ Insert 2 (Values put_reading_terms 5)) × IsPlain (understood office_schema put_reading_text)
unfolding understood everything
put_reading_is = (refl, (refl, refl))

abbrev pub put_five_text : List ℕ
put_five_text = codes "INSERT INTO reading(point, slot, words, counted) VALUES (?, ?, ?, ?), (?, ?, ?, ?), (?, ?, ?, ?), (?, ?, ?, ?), (?, ?, ?, ?)"

abbrev pub put_five_terms : List Term
put_five_terms =
    lit Null ∷ col 0 0 ∷ col 0 1 ∷ col 0 2 ∷ col 0 3 ∷ lit Null ∷ col 0 4 ∷ col 0 5 ∷ col 0 6 ∷ col 0 7 ∷ lit Null ∷ col 0 8 ∷ col 0 9 ∷ col 0 10 ∷ col 0 11
    ∷ lit Null ∷ col 0 12 ∷ col 0 13 ∷ col 0 14 ∷ col 0 15 ∷ lit Null ∷ col 0 16 ∷ col 0 17 ∷ col 0 18 ∷ col 0 19 ∷ []

pub put_five_is : (command_of (understood office_schema put_five_text) ≡ Insert 2 (Values put_five_terms 5)) × IsPlain (understood office_schema put_five_text)
unfolding understood everything
put_five_is = (refl, (refl, refl))

abbrev pub mark_reading_text : List ℕ
mark_reading_text = codes "UPDATE reading SET counted = ?3 WHERE point = ?1 AND slot = ?2"

abbrev pub mark_reading_query : Query
mark_reading_query = record {
  from = inner 4 end;
  filter = op2 (Compare Eq Binary) (col 1 1) (col 0 0) ∷ op2 (Compare Eq Binary) (col 1 2) (col 0 1) ∷ [];
  group = None;
  project = col 1 0 ∷ col 1 0 ∷ col 1 1 ∷ col 1 2 ∷ col 1 3 ∷ col 0 2 ∷ [];
  distinct = false;
  collations = [];
  order = [];
  limit = lit (Int (negsuc 0));
  offset = lit (Int (pos 0));
}

pub mark_reading_is : (command_of (understood office_schema mark_reading_text) ≡ Update 2 (record { lets = []; body = mark_reading_query })) × IsPlain (understood office_schema mark_reading_text)
unfolding understood everything
mark_reading_is = (refl, (refl, refl))

abbrev pub put_connection_text : List ℕ
put_connection_text = codes "UPDATE meta SET value = ?1 WHERE name = 'connections'"

abbrev pub put_connection_query : Query
put_connection_query = record {
  from = inner 0 end;
  filter = op2 (Compare Eq Binary) (col 1 1) (lit (Text (codes "connections"))) ∷ [];
  group = None;
  project = col 1 0 ∷ col 1 0 ∷ col 1 1 ∷ col 0 0 ∷ [];
  distinct = false;
  collations = [];
  order = [];
  limit = lit (Int (negsuc 0));
  offset = lit (Int (pos 0));
}

pub put_connection_is : (command_of (understood office_schema put_connection_text) ≡ Update 0 (record { lets = []; body = put_connection_query })) × IsPlain (understood office_schema put_connection_text)
unfolding understood everything
put_connection_is = (refl, (refl, refl))

abbrev pub put_setting_text : List ℕ
put_setting_text = codes "INSERT INTO setting(number, point, words, state, code) VALUES (?1, ?2, ?3, ?4, ?5)"

abbrev pub put_setting_terms : List Term
put_setting_terms = col 0 0 ∷ lit Null ∷ col 0 1 ∷ col 0 2 ∷ col 0 3 ∷ col 0 4 ∷ []

pub put_setting_is : (command_of (understood office_schema put_setting_text) ≡ Insert 3 (Values put_setting_terms 6)) × IsPlain (understood office_schema put_setting_text)
unfolding understood everything
put_setting_is = (refl, (refl, refl))

abbrev pub settle_text : List ℕ
settle_text = codes "UPDATE setting SET state = ?2, code = ?3 WHERE number = ?1"

abbrev pub settle_query : Query
settle_query = record {
  from = inner 6 end;
  filter = op2 (Compare Eq Binary) (col 1 0) (col 0 0) ∷ [];
  group = None;
  project = col 1 0 ∷ col 1 0 ∷ lit Null ∷ col 1 2 ∷ col 1 3 ∷ col 0 1 ∷ col 0 2 ∷ [];
  distinct = false;
  collations = [];
  order = [];
  limit = lit (Int (negsuc 0));
  offset = lit (Int (pos 0));
}

pub settle_is : (command_of (understood office_schema settle_text) ≡ Update 3 (record { lets = []; body = settle_query })) × IsPlain (understood office_schema settle_text)
unfolding understood everything
settle_is = (refl, (refl, refl))

abbrev pub put_total_text : List ℕ
put_total_text = codes "INSERT INTO total(point, value) VALUES (?1, ?2)"

abbrev pub put_total_terms : List Term
put_total_terms = col 0 0 ∷ lit Null ∷ col 0 1 ∷ []

pub put_total_is : (command_of (understood office_schema put_total_text) ≡ Insert 5 (Values put_total_terms 3)) × IsPlain (understood office_schema put_total_text)
unfolding understood everything
put_total_is = (refl, (refl, refl))

abbrev pub set_total_text : List ℕ
set_total_text = codes "UPDATE total SET value = ?2 WHERE point = ?1"

abbrev pub set_total_query : Query
set_total_query = record {
  from = inner 9 end;
  filter = op2 (Compare Eq Binary) (col 1 0) (col 0 0) ∷ [];
  group = None;
  project = col 1 0 ∷ col 1 0 ∷ lit Null ∷ col 0 1 ∷ [];
  distinct = false;
  collations = [];
  order = [];
  limit = lit (Int (negsuc 0));
  offset = lit (Int (pos 0));
}

pub set_total_is : (command_of (understood office_schema set_total_text) ≡ Update 5 (record { lets = []; body = set_total_query })) × IsPlain (understood office_schema set_total_text)
unfolding understood everything
set_total_is = (refl, (refl, refl))

abbrev pub put_void_text : List ℕ
put_void_text = codes "INSERT INTO void(point, slot) VALUES (?1, ?2)"

abbrev pub put_void_terms : List Term
put_void_terms = lit Null ∷ col 0 0 ∷ col 0 1 ∷ []

pub put_void_is : (command_of (understood office_schema put_void_text) ≡ Insert 6 (Values put_void_terms 3)) × IsPlain (understood office_schema put_void_text)
unfolding understood everything
put_void_is = (refl, (refl, refl))

abbrev pub put_request_text : List ℕ
put_request_text = codes "INSERT INTO request(caller, rkey, kind, body, answer, a, b, c) VALUES (?1, ?2, ?3, ?4, ?5, ?6, ?7, ?8)"

abbrev pub put_request_terms : List Term
put_request_terms = lit Null ∷ col 0 0 ∷ col 0 1 ∷ col 0 2 ∷ col 0 3 ∷ col 0 4 ∷ col 0 5 ∷ col 0 6 ∷ col 0 7 ∷ []

pub put_request_is : (command_of (understood office_schema put_request_text) ≡ Insert 4 (Values put_request_terms 9)) × IsPlain (understood office_schema put_request_text)
unfolding understood everything
put_request_is = (refl, (refl, refl))

abbrev pub put_point_text : List ℕ
put_point_text = codes "INSERT INTO point(number, name, device, tab, addr, kind, len, scale, role, roll) VALUES (?1, ?2, ?3, ?4, ?5, ?6, ?7, ?8, ?9, ?10)"

abbrev pub put_point_terms : List Term
put_point_terms = col 0 0 ∷ lit Null ∷ col 0 1 ∷ col 0 2 ∷ col 0 3 ∷ col 0 4 ∷ col 0 5 ∷ col 0 6 ∷ col 0 7 ∷ col 0 8 ∷ col 0 9 ∷ []

pub put_point_is : (command_of (understood office_schema put_point_text) ≡ Insert 1 (Values put_point_terms 11)) × IsPlain (understood office_schema put_point_text)
unfolding understood everything
put_point_is = (refl, (refl, refl))

abbrev pub put_swap_text : List ℕ
put_swap_text = codes "INSERT INTO swapped(point) VALUES (?1)"

abbrev pub put_swap_terms : List Term
put_swap_terms = col 0 0 ∷ lit Null ∷ []

pub put_swap_is : (command_of (understood office_schema put_swap_text) ≡ Insert 7 (Values put_swap_terms 2)) × IsPlain (understood office_schema put_swap_text)
unfolding understood everything
put_swap_is = (refl, (refl, refl))
