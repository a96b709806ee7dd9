-- A statement that a row in its way refuses changes nothing.
use Rattle.std.proofs.Common.{◌≡◌, ◌⊎◌, inl, inr, ℕ, List, Bool, true, false, Err, sym, subst, ◌∙◌, Result, Ok, IfErr}
use Rattle.std.specs.Prelude.{MatchBool}
use Rattle.sqlite_value.specs.Order.{Row}
use Rattle.sqlite_trees.specs.declared.error.StoreError.{StoreError}
use Rattle.sqlite_trees.specs.declared.error.StoreError.TheVariants.{OutOfMemory, Io, Corrupt, Full, Broken, Unstorable}
use Rattle.sqlite_schema.specs.declared.schema.Constraint.{Constraint}
use Rattle.sqlite.specs.declared.error.Error.{Error}
use Rattle.sqlite.specs.declared.error.Error.TheVariants.{SqliteFailure}
use Rattle.sqlite.specs.declared.error.ErrorCode.TheVariants.{ConstraintViolation}
use Rattle.sqlite.specs.Effect.{Database, IsDatabase}
use Rattle.sqlite.specs.State.{State, ExecutesIn, ExecutesInside, Fails, IsNotRun, IsUnchanged, store_error}
use Rattle.poll_book.specs.Tables.{Tables}
use Rattle.office_store.specs.Schema.{office_schema}
use Rattle.office_store.specs.Kept.{StandFor}
use Rattle.office_store.specs.Writing.{Within}

-- a store that failed tells another cause
other_cause : (cause : StoreError) (rule : Constraint) → SqliteFailure (ConstraintViolation rule) ≡ store_error cause → ⊥
other_cause OutOfMemory rule e = absurd (cc)
other_cause Io rule e = absurd (cc)
other_cause Corrupt rule e = absurd (cc)
other_cause Full rule e = absurd (cc)
other_cause Broken rule e = absurd (cc)
other_cause Unstorable rule e = absurd (cc)

module _ (sql : List ℕ) (params : Row) (old new : State) (rule : Constraint) where
  abbrev why : Error
  why = SqliteFailure (ConstraintViolation rule)

  not_run : IsNotRun old new sql params why → IsUnchanged old new
  unfolding IsNotRun
  not_run (inl none) = none.1
  not_run (inr fails) = absurd (other_cause fails.0 rule fails.1)

  by_shows : (b : Bool) (A R : Type 0) → (R → IsUnchanged old new) → MatchBool b (A × IsUnchanged old new) R → IsUnchanged old new
  by_shows true A R f h = h.1
  by_shows false A R f h = f h

  by_command : {A B : Type 0} → (A × IsUnchanged old new) ⊎ Fails old new B why → IsUnchanged old new
  by_command (inl refused) = refused.1
  by_command (inr fails) = absurd (other_cause fails.0 rule fails.1)

  executed : ExecutesIn false sql params old new (Err why) → IsUnchanged old new
  unfolding ExecutesIn
  executed (inl none) = not_run none
  executed (inr ran) = by_shows _ _ _ by_command ran.2

  pub unchanged : ExecutesInside 0 sql params old new (Err why) → IsUnchanged old new
  unchanged (inl ran) = executed ran.0
  unchanged (inr ended) = ended.2

-- of a statement's outcome
pub unless_taken : (sql : List ℕ) (params : Row) (old new : State) (r : Result ℕ Error) → ExecutesInside 0 sql params old new r
    → IfErr r (λ e. (rule : Constraint) → e ≡ SqliteFailure (ConstraintViolation rule) → IsUnchanged old new)
unless_taken sql params old new (Ok n) h = tt
unless_taken sql params old new (Err e) h = λ rule is. unchanged sql params old new rule (subst (λ (x : Error). ExecutesInside 0 sql params old new (Err x)) is h)

-- so what was to be kept is still to be
pub still_within : (old new : State) (base : Database) (kept : Tables) → IsUnchanged old new → Within old base kept → Within new base kept
still_within old new base kept same within = record {
  is_open = same.0.is_open;
  inside = same.0.mode ∙ within.inside;
  schema = subst (λ (d : Database). d.schema ≡ office_schema) (sym same.0.now_is) within.schema;
  committed = same.0.committed_is ∙ within.committed;
  sound = subst IsDatabase (sym same.0.now_is) within.sound;
  stands = subst (λ (d : Database). StandFor d.trees kept) (sym same.0.now_is) within.stands;
}
