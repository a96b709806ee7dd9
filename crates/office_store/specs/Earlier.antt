-- The tables of version 1, which have no voids and no swapped points, and what is made of them.
use Rattle.std.specs.Prelude.{◌≡◌, ℕ, pos, List, [], ◌∷◌, codes}
use Rattle.sqlite_value.specs.declared.value.Value.TheVariants.{Int, Text}
use Rattle.sqlite_value.specs.Order.{Row}
use Rattle.sqlite_trees.specs.Tree.{Trees}
use Rattle.sqlite_trees.specs.Objects.{catalog_tree}
use Rattle.sqlite_catalog.specs.Listing.{Lists}
use Rattle.sqlite.specs.Effect.{Database}
use Rattle.sqlite.specs.State.{State}
use Rattle.poll_book.specs.Tables.{Tables}
use Rattle.office_store.specs.Schema.{office_schema, meta_tree, point_tree, reading_tree, setting_tree, request_tree, total_tree, void_tree, swapped_tree}
use Rattle.office_store.specs.Kept.{AreReadings, AreRequests, ArePoints, AreSettings, AreTotals, StandFor}
use Rattle.office_store.specs.Swaps.{swaps_of}
use Rattle.office_store.specs.Blank.{six_schema}

-- the version, and the number of the last connection
abbrev pub numbers_of : ℕ → ℕ → List Row
numbers_of version connections = (Int (pos 1) ∷ Text (codes "version") ∷ Int (pos version) ∷ []) ∷ (Int (pos 2) ∷ Text (codes "connections") ∷ Int (pos connections) ∷ []) ∷ []

-- the rows of tables of version 1 stand for what is kept, where no slot is voided and no point swapped
pub record StoodFor (db : Trees) (kept : Tables) : Type 0 where
  pub points : ArePoints db kept.points
  pub readings : AreReadings db kept.readings
  pub settings : AreSettings db kept.settings
  pub requests : AreRequests db kept.requests
  pub totals : AreTotals db kept.totals
  pub voids : kept.voids ≡ []
  pub unswapped : swaps_of kept.points ≡ []
  pub numbers : db meta_tree ≡ numbers_of 1 kept.connections

-- the tables are an office's of version 1 and stand for what is kept, and nothing waits for a commit
pub record WasHeld (s : State) (kept : Tables) : Type 0 where
  pub schema : s.now.schema ≡ six_schema
  pub settled : s.now ≡ s.committed
  pub stood : StoodFor s.now.trees kept

-- the two tables that version 1 lacks are there and empty, and the others have the rows that they had
pub record AreAdded (old new : Database) : Type 0 where
  pub schema : new.schema ≡ office_schema
  pub meta : new.trees meta_tree ≡ old.trees meta_tree
  pub point : new.trees point_tree ≡ old.trees point_tree
  pub reading : new.trees reading_tree ≡ old.trees reading_tree
  pub setting : new.trees setting_tree ≡ old.trees setting_tree
  pub request : new.trees request_tree ≡ old.trees request_tree
  pub total : new.trees total_tree ≡ old.trees total_tree
  pub void : new.trees void_tree ≡ []
  pub swapped : new.trees swapped_tree ≡ []

-- all tables are there, and the version is still the earlier one
pub record AreBetween (db : Database) (kept : Tables) : Type 0 where
  pub schema : db.schema ≡ office_schema
  pub stood : StoodFor db.trees kept
  pub void : db.trees void_tree ≡ []
  pub swapped : db.trees swapped_tree ≡ []

-- tables that list an office's schema and stand for what is kept
pub record IsOfficeOf (db : Trees) (kept : Tables) : Type 0 where
  pub listed : Lists (db catalog_tree) office_schema
  pub stands : StandFor db kept

-- and those of a database that is known to have the schema
pub record HaveMoved (db : Database) (kept : Tables) : Type 0 where
  pub schema : db.schema ≡ office_schema
  pub office : IsOfficeOf db.trees kept
