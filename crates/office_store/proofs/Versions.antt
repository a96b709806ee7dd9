-- What the query of the version shows, of a database without tables, of one of version 1 and of an office's.
use Rattle.std.proofs.Common.{◌≡◌, inl, inr, ◌≤◌, ℕ, pos, negsuc, List, [], ◌∷◌, map, Bool, true, false, ◌&&◌, ◌++◌, flat_map, if◌then◌else◌, Option, None, Some, Ok, Err, Result, IsTrue, IsSome, Any, length, lit≤, refl, sym, ap, subst, ◌∙◌, ◌^◌, codes}
use Rattle.std.specs.Prelude.{◌≢◌}
use Rattle.std.specs.List.{list_all}
use Rattle.std.specs.List.Sorted.{IsPermutation}
use Rattle.sqlite_tied.specs.Compute.{everything}
use Rattle.sqlite_value.specs.declared.value.Value.TheVariants.{Null, Int, Text}
use Rattle.sqlite_value.specs.declared.keys.Collation.TheVariants.{Binary}
use Rattle.sqlite_value.specs.Order.{Row, column}
use Rattle.sqlite_value.proofs.OrderLemmas.{value_cmp-Text}
use Rattle.sqlite_sql.specs.declared.ops.BinaryOp.TheVariants.{Compare}
use Rattle.sqlite_sql.specs.declared.ops.CompareOp.TheVariants.{Eq}
use Rattle.sqlite_sql.specs.Term.{Env, lit, col, op2, holds}
use Rattle.sqlite_sql.specs.Ops.{binary, is_true}
use Rattle.sqlite_sql.specs.Query.{Query, inner, end, output, Output}
use Rattle.sqlite_trees.specs.Tree.{Trees}
use Rattle.sqlite_trees.specs.declared.error.StoreError.{StoreError as StoreFailure}
use Rattle.sqlite_trees.specs.declared.error.StoreError.TheVariants.{OutOfMemory, Io, Corrupt, Full, Broken, Unstorable}
use Rattle.sqlite_schema.specs.declared.schema.Schema.{Schema}
use Rattle.sqlite_schema.specs.declared.command.Command.{Command}
use Rattle.sqlite_schema.specs.declared.command.Command.TheVariants.{Select, Rows}
use Rattle.sqlite_resolve.specs.declared.compiled.Compiled.{Compiled}
use Rattle.sqlite_resolve.specs.declared.error.CompileError.{CompileError}
use Rattle.sqlite.specs.declared.error.Error.{Error}
use Rattle.sqlite.specs.Effect.{Database, RefusesQuery, RefusesToRead}
use Rattle.sqlite.specs.Listing.{understood, reads_listing, listing_schema, IsSourceOf}
use Rattle.sqlite.specs.Clock.{timed}
use Rattle.sqlite.specs.State.{State, FailsToQuery, FailsToShow, HasCause, IsNoStatement, IsNotRun, Shown, store_error}
use Rattle.sqlite.proofs.Callers.{IsPlain, command_of, reads_as, one_permutation}
use Rattle.poll_book.specs.Tables.{Tables}
use Rattle.poll_book.specs.declared.fault.StoreFault.TheVariants.{Other}
use Rattle.office_store.specs.Faults.{IsOfStore, fault_of}
use Rattle.office_store.specs.Blank.{six_schema}
use Rattle.office_store.specs.Earlier.{WasHeld, numbers_of}
use Rattle.office_store.specs.Schema.{meta_tree, no_schema, office_schema}
use Rattle.office_store.specs.Texts.{version_text}
use Rattle.office_store.specs.Rows.{number_of}
use Rattle.office_store.specs.Kept.{AreNumbers, IsHeld}
use Rattle.office_store.proofs.Asking.{after_ok}
use Rattle.office_store.proofs.Comparing.{number_is}
use Rattle.office_store.proofs.Queries.{version_is_query}

-- what showed rows was open
pub shown_open : (old new : State) (rows : List Row) → Shown version_text [] old new rows → IsTrue old.is_open
shown_open old new rows shown = (after_ok version_text [] old new version_is_query rows shown).0.was_open

-- a fault of the store is told by its name
named : (cause : StoreFailure) → fault_of (store_error cause) ≡ Other → ⊥
named OutOfMemory e = absurd (cc)
named Io e = absurd (cc)
named Corrupt e = absurd (cc)
named Full e = absurd (cc)
named Broken e = absurd (cc)
named Unstorable e = absurd (cc)

-- and what failed for another cause than a fault of the store, too
pub other_open : (old new : State) (error : Error) → FailsToQuery version_text [] old new error → fault_of error ≡ Other → IsTrue old.is_open
unfolding FailsToQuery IsNotRun
other_open old new error (inl (inl none)) other = none.1.0.was_open
other_open old new error (inl (inr fails)) other = absurd (named fails.0 (ap fault_of (sym fails.1) ∙ other))
other_open old new error (inr h) other = (subst (FailsToShow old new version_text h.0 (timed [] h.0.formats h.1.now) error) (version_is_query old.now.schema h.0 h.1.is) h.2).3.0.was_open

-- what isn't run without a fault of the store is told as `Other`
no_statement : (s : State) (error : Error) → IsNoStatement s version_text [] error → fault_of error ≡ Other
no_statement s error (inl none) = ap fault_of none.2
no_statement s error (inr h) = elim h.2 [ inl long ↦ ap fault_of long.1 | inr (inl given) ↦ ap fault_of given.1 | inr (inr clock) ↦ ap fault_of clock.1 ]

not_read : (limit : Option ℕ) (command : Command) (db : Database) (params : Row) (error : Error) → RefusesToRead limit command db params error → fault_of error ≡ Other
not_read limit (Select q names) db params error (inl untyped) = ap fault_of untyped.0
not_read limit (Select q names) db params error (inr (inl over)) = ap fault_of over.0
not_read limit (Select q names) db params error (inr (inr limited)) = ap fault_of limited.0
not_read limit (Rows values width names) db params error h = ap fault_of h.0
not_read limit _ db params error h = ap fault_of h

caused : (old new : State) (cause : StoreFailure) → HasCause old new ⊥ cause → IsOfStore old new (fault_of (store_error cause))
caused old new OutOfMemory h = tt
caused old new Io h = inr h
caused old new Corrupt h = inr h
caused old new Full h = inr h
caused old new Broken h = inl h
caused old new Unstorable h = absurd h

-- What fails is told as `Other`, or the store itself failed.
pub by_store : (old new : State) (error : Error) → FailsToQuery version_text [] old new error → fault_of error ≢ Other → IsOfStore old new (fault_of error)
unfolding FailsToQuery IsNotRun
by_store old new error (inl (inl none)) known = absurd (known (no_statement old error none.0))
by_store old new error (inl (inr fails)) known = subst (λ e. IsOfStore old new (fault_of e)) (sym fails.1) (caused old new fails.0 fails.2)
by_store old new error (inr h) known =
    let full = timed [] h.0.formats h.1.now in
    let it = subst (FailsToShow old new version_text h.0 full error) (version_is_query old.now.schema h.0 h.1.is) h.2 in
    absurd (known (not_read old.step_limit h.0.command it.0 full error it.2))

-- ---- of a database without tables

abbrev IsUnknown : Result Compiled CompileError → Type 0
IsUnknown (Ok c) = ⊥
IsUnknown (Err e) = Unit {0}

unknown : IsUnknown (understood no_schema version_text)
unfolding understood listing_schema everything
unknown = tt

-- It shows no rows, not even none, since it isn't understood.
pub bare_shows : (old new : State) (rows : List Row) → old.now.schema ≡ no_schema → ¬ Shown version_text [] old new rows
unfolding Shown
bare_shows old new rows bare shown =
    let is : understood no_schema version_text ≡ Ok shown.0 = subst (λ s. understood s version_text ≡ Ok shown.0) bare shown.1.is in
    subst IsUnknown is unknown

-- ---- of an office's

abbrev version_query : Query
version_query = record {
  from = inner 0 end;
  filter = op2 (Compare Eq Binary) (col 1 1) (lit (Text (codes "version"))) ∷ [];
  group = None;
  project = col 1 2 ∷ [];
  distinct = false;
  collations = [];
  order = [];
  limit = lit (Int (negsuc 0));
  offset = lit (Int (pos 0));
}

abbrev version_command : Command
version_command = Select (record { lets = []; body = version_query }) (codes "value" ∷ [])

abbrev Means : Schema → Type 0
Means s = (command_of (understood s version_text) ≡ version_command) × (reads_listing s version_text ≡ false) × IsPlain (understood s version_text)

version_is : Means office_schema
unfolding understood everything
version_is = (refl, refl, (refl, refl))

earlier_is : Means six_schema
unfolding understood everything
earlier_is = (refl, refl, (refl, refl))

pub passes_itself : is_true (binary (Compare Eq Binary) (Text (codes "version")) (Text (codes "version"))) ≡ true
unfolding binary
passes_itself = rw (value_cmp-Text (codes "version") (codes "version")) refl

pub passes_not : is_true (binary (Compare Eq Binary) (Text (codes "connections")) (Text (codes "version"))) ≡ false
unfolding binary
passes_not = rw (value_cmp-Text (codes "connections") (codes "version")) refl

pub first_alone : {X : Type 0} (x y : X) (a b : Bool) → a ≡ true → b ≡ false → (if a then x ∷ [] else []) ++ ((if b then y ∷ [] else []) ++ []) ≡ x ∷ []
first_alone x y false b h k = absurd (cc)
first_alone x y true true h k = absurd (cc)
first_alone x y true false h k = refl

abbrev IsWhole : Result Compiled CompileError → Type 0
IsWhole (Ok c) = (length version_text ≤ c.tail) × (c.names ≡ []) × (c.formats ≡ [])
IsWhole (Err e) = ⊥

whole : IsWhole (understood office_schema version_text)
unfolding understood everything
whole = (lit≤ tt, refl, refl)

-- The text is one statement, without parameters.
is_statement : (s : State) → s.now.schema ≡ office_schema → (error : Error) → ¬ IsNoStatement s version_text [] error
is_statement s schema error (inl none) = subst IsWhole (sym (ap (λ x. understood x version_text) schema) ∙ none.1) whole
is_statement s schema error (inr h) =
    let it = subst IsWhole (sym (ap (λ x. understood x version_text) schema) ∙ h.1) whole in
    elim h.2 [
      | inl long ↦ long.0 it.0
      | inr (inl other) ↦ other.0 (sym (ap (λ (xs : List (List ℕ)). length xs) it.1))
      | inr (inr clock) ↦ clock.0 it.2
    ]

never : (rows : List Row) → ¬ Any (λ (r : Row). ⊥) rows
never rows h = h.4

-- A query that was refused was limited.
refused : (limit : Option ℕ) (trees : Trees) (error : Error) → RefusesQuery limit (record { schema = office_schema; trees = trees }) (record { lets = []; body = version_query }) [] error → IsSome limit
unfolding everything
refused limit trees error (inl untyped) = absurd (let bad : true ≡ false = untyped.1 in cc)
refused limit trees error (inr (inl over)) = elim over.1 [ inl none ↦ absurd none | inr some ↦ absurd (never _ some) ]
refused limit trees error (inr (inr limited)) = limited.1

-- tables that list a schema in which the text is this query, and have a version
module _ (s : Schema) (means : Means s) (version : ℕ) (old new : State) (connections : ℕ) (schema : old.now.schema ≡ s) (numbers : old.now.trees meta_tree ≡ numbers_of version connections) where
  shows : (rows : List Row) → Shown version_text [] old new rows → rows ≡ (Int (pos version) ∷ []) ∷ []
  shows rows shown =
      let r : Row = Int (pos 1) ∷ Text (codes "version") ∷ Int (pos version) ∷ [] in
      let t : Row = Int (pos 2) ∷ Text (codes "connections") ∷ Int (pos connections) ∷ [] in
      let a = (reads_as version_text [] old new s schema version_command means.0 means.2 means.1 rows shown).answer Null in
      let passes = ap (λ b. b && true) passes_itself in
      let fails = ap (λ b. b && true) passes_not in
      let all : List Row → List Env = λ rs. flat_map (λ r. if list_all (holds ([] ∷ r ∷ [])) version_query.filter then ([] ∷ r ∷ []) ∷ [] else []) rs in
      let staged : a.staged ≡ ([] ∷ r ∷ []) ∷ [] = a.grouped ∙ ap all numbers ∙ first_alone ([] ∷ r ∷ []) ([] ∷ t ∷ []) _ _ passes fails in
      let kept_is : a.kept ≡ output version_query ([] ∷ r ∷ []) ∷ [] = a.distinct ∙ ap (map (output version_query)) staged in
      let sorted = one_permutation (output version_query ([] ∷ r ∷ [])) a.ordered (subst (λ k. IsPermutation k a.ordered) kept_is a.same) in
      a.shown ∙ ap (map (λ (o : Output). o.1)) sorted

  number_shown : (row : Row) → Shown version_text [] old new (row ∷ []) → (n : ℕ) → number_of (column row 0) ≡ Some n → n ≡ version
  number_shown row shown n some =
      let all = shows (row ∷ []) shown in
      let is : row ≡ Int (pos version) ∷ [] = cc in
      let same : Int (pos n) ≡ Int (pos version) = sym (number_is (2 ^ 32) (column row 0) n some) ∙ ap (λ (r : Row). column r 0) is in
      cc

-- of the tables of version 1
pub earlier_shown : (old new : State) (kept : Tables) → WasHeld old kept → (row : Row) → Shown version_text [] old new (row ∷ []) → (n : ℕ) → number_of (column row 0) ≡ Some n → n ≡ 1
earlier_shown old new kept held = number_shown six_schema earlier_is 1 old new kept.connections held.schema held.stood.numbers

-- and of an office's
pub office_shown : (old new : State) (kept : Tables) → IsHeld old kept → (row : Row) → Shown version_text [] old new (row ∷ []) → (n : ℕ) → number_of (column row 0) ≡ Some n → n ≡ 2
office_shown old new kept held = number_shown office_schema version_is 2 old new kept.connections held.schema held.stands.numbers

module _ (old new : State) (connections : ℕ) (schema : old.now.schema ≡ office_schema) (numbers : AreNumbers old.now.trees connections) where
  shows_version : (rows : List Row) → Shown version_text [] old new rows → rows ≡ (Int (pos 2) ∷ []) ∷ []
  shows_version = shows office_schema version_is 2 old new connections schema numbers

  -- It shows one row,
  pub row_shown : (rows : List Row) → Shown version_text [] old new rows → length rows ≡ 1
  row_shown rows shown = ap (λ (all : List Row). length all) (shows_version rows shown)

  -- which has the version 2.
  pub version_shown : (row : Row) → Shown version_text [] old new (row ∷ []) → number_of (column row 0) ≡ Some 2
  version_shown row shown =
      let all = shows_version (row ∷ []) shown in
      let is : row ≡ Int (pos 2) ∷ [] = cc in
      ap (λ (r : Row). number_of (column r 0)) is

  -- It fails by a fault of the store itself, or since a query's steps are limited.
  pub fails_limited : (error : Error) → FailsToQuery version_text [] old new error → fault_of error ≡ Other → IsSome old.step_limit
  unfolding FailsToQuery IsNotRun
  fails_limited error (inl (inl none)) other = absurd (is_statement old schema error none.0)
  fails_limited error (inl (inr fails)) other = absurd (named fails.0 (ap fault_of (sym fails.1) ∙ other))
  fails_limited error (inr h) other =
      let known = sym h.1.is ∙ ap (λ s. understood s version_text) schema in
      let plain = subst IsPlain (sym known) version_is.2 in
      let it = rw (plain.0, plain.1) at h.2 in
      let db : it.0 ≡ old.now = subst (λ b. IsSourceOf b old.now it.0) (ap (λ s. reads_listing s version_text) schema ∙ version_is.1) it.1 in
      let selects : h.0.command ≡ version_command = ap command_of known ∙ version_is.0 in
      let asked = subst (λ (d : Database). RefusesToRead old.step_limit h.0.command d [] error) db it.2 in
      let refuses = subst (λ k. RefusesToRead old.step_limit k old.now [] error) selects asked in
      refused old.step_limit old.now.trees error (subst (λ s. RefusesToRead old.step_limit version_command (record old.now { schema = s }) [] error) schema refuses)
