-- What a stop while an office's tables are made may leave, and what to open it comes to.
use Rattle.std.specs.Prelude.{◌≡◌, ◌⊎◌, IsSome, IsTrue}
use Rattle.sqlite_trees.specs.Tree.{Trees}
use Rattle.sqlite.specs.State.{State, HasCleanDisk}
use Rattle.poll_book.specs.Tables.{no_tables}
use Rattle.office_store.specs.Schema.{no_schema}
use Rattle.office_store.specs.Kept.{IsHeld}
use Rattle.office_store.specs.Faults.{IsOfStore}
use Rattle.office_store.specs.declared.error.StoreError.{StoreError}
use Rattle.office_store.specs.declared.error.StoreError.TheVariants.{Store, BadVersion, NotOffice}

-- Tables were made in a database that was open and had none: a stop before that, inside it or behind it may leave these.
pub record IsLeftByMaking (old new : State) (db : Trees) : Type 0 where
  pub clean : HasCleanDisk new
  pub is_open : IsTrue old.is_open
  pub bare : old.now.schema ≡ no_schema
  pub left : old.may_leave db ⊎ new.may_leave db

-- there is no table, or an office that knows nothing
abbrev pub IsBareOrEmpty : State → Type 0
IsBareOrEmpty s = (s.now.schema ≡ no_schema) ⊎ IsHeld s no_tables

-- a refusal of a call that reads: no office, since there is no table or the steps of a query are limited; or a fault of the store itself
abbrev pub IsRefusal : State → State → StoreError → Type 0
IsRefusal old new NotOffice = (old.now.schema ≡ no_schema) ⊎ IsSome old.step_limit
IsRefusal old new (Store fault) = IsOfStore old new fault
IsRefusal old new BadVersion = ⊥
