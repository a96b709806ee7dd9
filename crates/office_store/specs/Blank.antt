-- Tables that are made and hold nothing yet.
use Rattle.std.specs.Prelude.{◌≡◌, []}
use Rattle.sqlite.specs.Effect.{Database}
use Rattle.sqlite_trees.specs.Tree.{Trees}
use Rattle.sqlite_trees.specs.Objects.{catalog_tree}
use Rattle.sqlite_schema.specs.declared.schema.Schema.{Schema}
use Rattle.sqlite_catalog.specs.Change.{created}
use Rattle.sqlite_catalog.specs.Listing.{Lists}
use Rattle.poll_book.specs.Tables.{no_tables}
use Rattle.office_store.specs.Schema as table
use Rattle.office_store.specs.Schema.{no_schema, office_schema, meta_tree, point_tree, reading_tree, setting_tree, request_tree, total_tree, void_tree, swapped_tree}
use Rattle.office_store.specs.Kept.{StandFor}

abbrev pub first_schema : Schema
first_schema = created (created (created no_schema table.meta) table.point) table.reading

abbrev pub six_schema : Schema
six_schema = created (created (created first_schema table.setting) table.request) table.total

-- the first three
pub record AreFirst (db : Database) : Type 0 where
  pub schema : db.schema ≡ first_schema
  pub meta : db.trees meta_tree ≡ []
  pub point : db.trees point_tree ≡ []
  pub reading : db.trees reading_tree ≡ []

-- the first six
pub record AreSix (db : Database) : Type 0 where
  pub schema : db.schema ≡ six_schema
  pub meta : db.trees meta_tree ≡ []
  pub point : db.trees point_tree ≡ []
  pub reading : db.trees reading_tree ≡ []
  pub setting : db.trees setting_tree ≡ []
  pub request : db.trees request_tree ≡ []
  pub total : db.trees total_tree ≡ []

-- all eight
pub record AreBlank (db : Database) : Type 0 where
  pub schema : db.schema ≡ office_schema
  pub meta : db.trees meta_tree ≡ []
  pub point : db.trees point_tree ≡ []
  pub reading : db.trees reading_tree ≡ []
  pub setting : db.trees setting_tree ≡ []
  pub request : db.trees request_tree ≡ []
  pub total : db.trees total_tree ≡ []
  pub void : db.trees void_tree ≡ []
  pub swapped : db.trees swapped_tree ≡ []

-- the tables of an office that knows nothing: they list its schema, and their rows stand for no tables
pub record IsEmptyOffice (db : Trees) : Type 0 where
  pub listed : Lists (db catalog_tree) office_schema
  pub stands : StandFor db no_tables
