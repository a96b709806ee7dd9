-- What tables of a store stand for, and what a crash leaves of them.
use Rattle.std.specs.Prelude.{◌≡◌, ℕ, pos, List, [], ◌∷◌, map, Some, None, Ok, IsTrue, T, IsPermutation, codes}
use Rattle.std.specs.FinMap.Entries.{is_sorted}
use Rattle.std.specs.Ordering.{nat_cmp}
use Rattle.sqlite_schema.specs.declared.schema.Schema.{Schema}
use Rattle.sqlite_resolve.specs.declared.compiled.Compiled.{Compiled}
use Rattle.sqlite_value.specs.declared.value.Value.TheVariants.{Int, Text}
use Rattle.sqlite_value.specs.Order.{Row}
use Rattle.sqlite_trees.specs.Tree.{Trees}
use Rattle.sqlite_trees.specs.View.{IsShaped}
use Rattle.sqlite_trees.specs.declared.store.Shape.TheVariants.{Table}
use Rattle.sqlite_trees.specs.Objects.{catalog_tree}
use Rattle.sqlite_catalog.specs.Listing.{Lists}
use Rattle.sqlite.specs.Listing.{understood}
use Rattle.sqlite.specs.State.{State, HasCleanDisk}
use Rattle.poll_book.specs.declared.rows.PointRow.{PointRow}
use Rattle.poll_book.specs.Tables.{Tables, Readings, Sums, Voids, key_cmp}
use Rattle.poll_book.specs.Orders.{Settings}
use Rattle.poll_book.specs.Requests.{Requests, request_cmp}
use Rattle.office_store.specs.Schema.{office_schema, meta_tree, point_tree, reading_tree, setting_tree, request_tree, total_tree, void_tree, swapped_tree}
use Rattle.office_store.specs.Rows.{stored_point, stored_reading, stored_setting, stored_request, stored_sum, stored_swap, stored_void}
use Rattle.office_store.specs.Swaps.{AreInOrder, plain, swaps_of}

-- Each row of the table stands for its entry, and the map has these entries, in the order of their keys. The rows' own numbers, by which
-- one is written over, rise
pub record AreReadings (db : Trees) (kept : Readings) : Type 0 where
  pub entries : Readings
  pub stored : map stored_reading (db reading_tree) ≡ map Some entries
  pub numbered : IsShaped Table (db reading_tree)
  pub same : IsPermutation entries kept
  pub sorted : T (is_sorted key_cmp kept)

pub record AreRequests (db : Trees) (kept : Requests) : Type 0 where
  pub entries : Requests
  pub stored : map stored_request (db request_tree) ≡ map Some entries
  pub same : IsPermutation entries kept
  pub sorted : T (is_sorted request_cmp kept)

pub record AreVoids (db : Trees) (kept : Voids) : Type 0 where
  pub entries : Voids
  pub stored : map stored_void (db void_tree) ≡ map Some entries
  pub same : IsPermutation entries kept
  pub sorted : T (is_sorted key_cmp kept)

-- the rows of a table by its numbers stand in their order. A point's row doesn't tell its order
pub record ArePoints (db : Trees) (kept : List PointRow) : Type 0 where
  pub stored : map stored_point (db point_tree) ≡ map Some (map plain kept)
  pub sorted : AreInOrder kept

-- the swapped points have a row each, and no other has one
pub record AreSwaps (db : Trees) (points : List PointRow) : Type 0 where
  pub stored : map stored_swap (db swapped_tree) ≡ map Some (swaps_of points)

pub record AreSettings (db : Trees) (kept : Settings) : Type 0 where
  pub stored : map stored_setting (db setting_tree) ≡ map Some kept
  pub sorted : T (is_sorted nat_cmp kept)

pub record AreTotals (db : Trees) (kept : Sums) : Type 0 where
  pub stored : map stored_sum (db total_tree) ≡ map Some kept
  pub sorted : T (is_sorted nat_cmp kept)

-- the version, and the number of the last connection
abbrev pub number_rows : ℕ → List Row
number_rows connections = (Int (pos 1) ∷ Text (codes "version") ∷ Int (pos 2) ∷ []) ∷ (Int (pos 2) ∷ Text (codes "connections") ∷ Int (pos connections) ∷ []) ∷ []

abbrev pub AreNumbers : Trees → ℕ → Type 0
AreNumbers db connections = db meta_tree ≡ number_rows connections

-- the rows of the tables stand for these seven parts, and nothing else is there
pub record StandFor (db : Trees) (kept : Tables) : Type 0 where
  pub points : ArePoints db kept.points
  pub readings : AreReadings db kept.readings
  pub settings : AreSettings db kept.settings
  pub requests : AreRequests db kept.requests
  pub totals : AreTotals db kept.totals
  pub voids : AreVoids db kept.voids
  pub swapped : AreSwaps db kept.points
  pub numbers : AreNumbers db kept.connections

-- the tables are an office's and stand for what is kept, and nothing waits for a commit
pub record IsHeld (s : State) (kept : Tables) : Type 0 where
  pub schema : s.now.schema ≡ office_schema
  pub settled : s.now ≡ s.committed
  pub stands : StandFor s.now.trees kept

-- As far as it can still be read, it holds these tables. Of a store that is shut, or whose disk has lied, it says nothing.
abbrev pub Holds : State → Tables → Type 0
Holds s kept = HasCleanDisk s → IsTrue s.is_open → IsHeld s kept

-- tables of the office's schema that stand for what some office keeps
pub record IsOffice (db : Trees) : Type 0 where
  pub listed : Lists (db catalog_tree) office_schema
  pub some : Tables
  pub stands : StandFor db some

-- What a crash at this moment may leave. Tables that are no office's would stand for anything: so whoever
-- knows a bound of what a crash may leave knows that it leaves an office's.
abbrev pub MayLeave : State → Tables → Type 0
MayLeave s kept = (db : Trees) × s.may_leave db × (IsOffice db → StandFor db kept)

-- no call of it changes what a later call reads, or what a crash leaves
pub record Keeps (old new : State) : Type 0 where
  pub clean : HasCleanDisk new → HasCleanDisk old
  pub was_open : HasCleanDisk new → IsTrue new.is_open → IsTrue old.is_open
  pub holds : (kept : Tables) → Holds old kept → Holds new kept
  pub crash : HasCleanDisk new → (db : Trees) → new.may_leave db → old.may_leave db

-- whatever the tables are, the text shows no row of a write, so it commits nothing
abbrev pub IsQuery : List ℕ → Type 0
IsQuery sql = (schema : Schema) (c : Compiled) → understood schema sql ≡ Ok c → c.returning ≡ None
