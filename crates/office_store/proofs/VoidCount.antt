-- What the count of the voided pairs shows.
use Rattle.std.proofs.Common.{◌≡◌, ℕ, pos, negsuc, min, ◌-◌, ◌^◌, List, [], ◌∷◌, map, flat_map, length, false, Some, Option, refl, sym, suc, ap, subst, ◌∙◌, arith, codes}
use Rattle.std.specs.List.{AllZip, filter, list_all}
use Rattle.std.specs.List.Sorted.{IsPermutation}
use Rattle.std.proofs.lemmas.List.{length-map}
use Rattle.std.proofs.lemmas.List.Sorted.{length_permutation}
use Rattle.sqlite_tied.specs.Compute.{everything}
use Rattle.sqlite_value.specs.declared.value.Value.{Value}
use Rattle.sqlite_value.specs.declared.value.Value.TheVariants.{Null, Int}
use Rattle.sqlite_value.specs.declared.keys.Collation.TheVariants.{Binary}
use Rattle.sqlite_value.specs.Order.{Row, column}
use Rattle.sqlite_sql.specs.declared.aggregate.AggregateOp.TheVariants.{CountRows}
use Rattle.sqlite_sql.specs.Term.{Env, eval, holds, lit, col}
use Rattle.sqlite_sql.specs.Aggregate.{count}
use Rattle.sqlite_sql.specs.Group.{Aggregate, Grouping, IsGrouped, IsSummary}
use Rattle.sqlite_sql.specs.Query.{Query, Output, inner, end, output}
use Rattle.sqlite_schema.specs.declared.command.Command.TheVariants.{Select}
use Rattle.sqlite.specs.Listing.{understood, reads_listing}
use Rattle.sqlite.specs.State.{State, Shown}
use Rattle.sqlite.proofs.Callers.{IsPlain, command_of, reads_as, one_permutation}
use Rattle.poll_book.specs.Tables.{Tables, Voids}
use Rattle.office_store.specs.Schema.{office_schema, void_tree}
use Rattle.office_store.specs.Texts.{voids_text}
use Rattle.office_store.specs.Rows.{number_below, stored_void}
use Rattle.office_store.specs.Kept.{IsHeld}
use Rattle.office_store.proofs.Comparing.{number_is}
use Rattle.office_store.proofs.Counts.{below_limit}

abbrev all_rows : Aggregate
all_rows = record { op = CountRows; distinct = false; collation = Binary; argument = lit Null }

abbrev grouping : Grouping
grouping = record { keys = []; collations = []; aggregates = all_rows ∷ []; having = [] }

abbrev voids_query : Query
voids_query = record {
  from = inner 10 end;
  filter = [];
  group = Some grouping;
  project = col 1 0 ∷ [];
  distinct = false;
  collations = [];
  order = [];
  limit = lit (Int (negsuc 0));
  offset = lit (Int (pos 0));
}

abbrev voids_names : List (List ℕ)
voids_names = codes "COUNT(*)" ∷ []

voids_are : (command_of (understood office_schema voids_text) ≡ Select (record { lets = []; body = voids_query }) voids_names) × (reads_listing office_schema voids_text ≡ false) × IsPlain (understood office_schema voids_text)
unfolding understood everything
voids_are = (refl, refl, (refl, refl))

abbrev each : List Row → List Env
each = flat_map (λ (r : Row). ([] ∷ r ∷ []) ∷ [])

as_many : (all : List Row) → length (each all) ≡ length all
as_many [] = refl
as_many (r ∷ all) = ap suc (as_many all)

-- the one row of a summary without keys
counted : (order : List Env) (row : Row) → IsSummary grouping order row → row ≡ count (length order) ∷ []
counted order row ([], all, is) = absurd all
counted order row (v ∷ [], all, is) =
    let many : length (map (eval (lit Null)) order) ≡ length order = length-map order (eval (lit Null)) in
    let same : ◌≡◌ {A = Option Value} (Some (count (length (map (eval (lit Null)) order)))) (Some v) = all.0 in
    let value : count (length (map (eval (lit Null)) order)) ≡ v = cc in
    is ∙ ap (λ (x : Value). x ∷ []) (sym value ∙ ap count many)
counted order row (v ∷ w ∷ more, all, is) = absurd all.1

one_group : (order : List Env) (rows : List Row) → AllZip (IsSummary grouping) (order ∷ []) rows → rows ≡ (count (length order) ∷ []) ∷ []
one_group order [] all = absurd all
one_group order (row ∷ []) all = ap (λ (r : Row). r ∷ []) (counted order row all.0)
one_group order (row ∷ other ∷ more) all = absurd all.1

staged_is : (all staged : List Env) → IsGrouped (Some grouping) [] all staged → staged ≡ ([] ∷ (count (length all) ∷ []) ∷ []) ∷ []
staged_is all staged it =
    let order = it.grouping.0 in
    let rows = one_group order it.rows (subst (λ gs. AllZip (IsSummary grouping) gs it.rows) it.grouping.2 it.summaries) in
    let many : length order ≡ length all = length_permutation all order it.grouping.1 in
    it.having ∙ ap (λ (rs : List Row). filter (λ (env : Env). list_all (holds env) grouping.having) (map (λ (r : Row). [] ∷ r ∷ []) rs)) rows ∙ ap (λ n. ([] ∷ (count n ∷ []) ∷ []) ∷ []) many

stored_as_many : (all : List Row) (es : Voids) → map stored_void all ≡ map Some es → length all ≡ length es
stored_as_many all es h = sym (length-map all stored_void) ∙ ap length h ∙ length-map es Some

shows_count : (old new : State) (kept : Tables) (held : IsHeld old kept) (rows : List Row) → Shown voids_text [] old new rows → rows ≡ (count (length kept.voids) ∷ []) ∷ []
shows_count old new kept held rows shown =
    let read = held.stands.voids in
    let all = old.now.trees void_tree in
    let a = (reads_as voids_text [] old new office_schema held.schema (Select (record { lets = []; body = voids_query }) voids_names) voids_are.0 voids_are.2 voids_are.1 rows shown).answer Null in
    let staged = staged_is (each all) a.staged a.grouped in
    let env : Env = [] ∷ (count (length (each all)) ∷ []) ∷ [] in
    let kept_is : a.kept ≡ output voids_query env ∷ [] = a.distinct ∙ ap (map (output voids_query)) staged in
    let sorted = one_permutation (output voids_query env) a.ordered (subst (λ k. IsPermutation k a.ordered) kept_is a.same) in
    let many : length (each all) ≡ length kept.voids = as_many all ∙ stored_as_many all read.entries read.stored ∙ sym (length_permutation read.entries kept.voids read.same) in
    a.shown ∙ ap (map (λ (o : Output). o.1)) sorted ∙ ap (λ n. (count n ∷ []) ∷ []) many

-- a count short of the greatest is exact
exact : (n many : ℕ) → number_below (2 ^ 63 - 1) (count many) ≡ Some n → n ≡ many
exact n many h =
    let low = below_limit (2 ^ 63 - 1) (count many) n h in
    let is = number_is (2 ^ 63 - 1) (count many) n h in
    let same : min many 9223372036854775807 ≡ n = cc in
    omega (arith, same, low)

pub count_is : (old new : State) (kept : Tables) (held : IsHeld old kept) (row : Row) → Shown voids_text [] old new (row ∷ []) → (n : ℕ) → number_below (2 ^ 63 - 1) (column row 0) ≡ Some n → n ≡ length kept.voids
count_is old new kept held row shown n h =
    let all = shows_count old new kept held (row ∷ []) shown in
    let is : row ≡ count (length kept.voids) ∷ [] = cc in
    exact n (length kept.voids) (sym (ap (λ (r : Row). number_below (2 ^ 63 - 1) (column r 0)) is) ∙ h)
