-- A change, and tables inside its transaction.
use Rattle.std.specs.Prelude.{◌≡◌, ⊤, [], ◌∷◌, None, IsTrue}
use Rattle.sqlite.specs.Effect.{Database, IsDatabase}
use Rattle.sqlite.specs.State.{State}
use Rattle.poll_book.specs.declared.rows.Change.{Change}
use Rattle.poll_book.specs.Tables.{Tables, Sums, sum_at, with_sums}
use Rattle.office_store.specs.Schema.{office_schema}
use Rattle.office_store.specs.Kept.{StandFor}

-- a transaction is under way over this last commit, and its tables are sound and stand for what is to be kept
pub record Within (s : State) (base : Database) (kept : Tables) : Type 0 where
  pub is_open : IsTrue s.is_open
  pub inside : IsTrue s.in_transaction
  pub schema : s.now.schema ≡ office_schema
  pub committed : s.committed ≡ base
  pub sound : IsDatabase s.now
  pub stands : StandFor s.now.trees kept

-- a change has no row and no number
pub record IsEmpty (change : Change) : Type 0 where
  pub points : change.points ≡ []
  pub readings : change.readings ≡ []
  pub totals : change.totals ≡ []
  pub void : change.void ≡ None
  pub setting : change.setting ≡ None
  pub request : change.request ≡ None
  pub connections : change.connections ≡ None

-- each of these totals is put where none is
abbrev pub AreFree : Sums → Sums → Type 0
AreFree table [] = ⊤
AreFree table (row ∷ added) = (sum_at (with_sums added table) row.0 ≡ None) × AreFree table added
