-- Tables of version 1 become an office's.
use Rattle.std.proofs.Common.{◌≡◌, ◌⊎◌, inl, inr, IsTrue, ℕ, pos, negsuc, List, [], ◌∷◌, map, flat_map, codes, true, false, ◌&&◌, None, Some, Ok, Err, Result, refl, sym, ap, subst, ◌∙◌, arith, IfOk, OnOk, if◌then◌else◌}
use Rattle.std.specs.List.{list_all}
use Rattle.std.specs.List.Sorted.{IsPermutation}
use Rattle.std.proofs.lemmas.List.Sorted.{IsPermutation-refl}
use Rattle.sqlite_value.specs.declared.value.Value.TheVariants.{Null, Int, Text}
use Rattle.sqlite_value.specs.Order.{Row}
use Rattle.sqlite_value.proofs.OrderLemmas.{value_cmp-Int}
use Rattle.sqlite_value.specs.declared.keys.Collation.TheVariants.{Binary}
use Rattle.sqlite_tied.specs.Compute.{everything}
use Rattle.sqlite_trees.specs.Tree.{Trees, put_row, without_rowid}
use Rattle.sqlite_trees.specs.Objects.{catalog_tree}
use Rattle.sqlite_sql.specs.declared.ops.BinaryOp.TheVariants.{Compare}
use Rattle.sqlite_sql.specs.declared.ops.CompareOp.TheVariants.{Eq}
use Rattle.sqlite_sql.specs.Term.{Env, col, holds, lit, op2}
use Rattle.sqlite_sql.specs.Query.{IsAnswer, Output, Query, end, inner, output}
use Rattle.sqlite_sql.specs.Program.{overlay}
use Rattle.sqlite_schema.specs.declared.program.Program.{Program}
use Rattle.sqlite_schema.specs.declared.schema.Keys.TheVariants.{Enforced}
use Rattle.sqlite_schema.specs.declared.command.Command.TheVariants.{Update}
use Rattle.sqlite_rules.specs.declared.error.Rowids.TheVariants.{Given}
use Rattle.sqlite_rules.specs.Edit.{Edit, edit_of, edited, put_all}
use Rattle.sqlite_rules.specs.Calls.{ids_of}
use Rattle.sqlite_rules.specs.Action.{Writes}
use Rattle.sqlite_catalog.specs.Listing.{Lists}
use Rattle.poll_book.specs.declared.fault.StoreFault.{StoreFault}
use Rattle.sqlite.specs.Listing.{understood}
use Rattle.sqlite.specs.Effect.{Database}
use Rattle.sqlite.specs.Rows.{Written}
use Rattle.sqlite.specs.Does.{Tally, Does}
use Rattle.sqlite.specs.State.{State, mode_of, Executes, IsRolledBack, IsUnchanged, Shows}
use Rattle.sqlite.proofs.Callers.{IsPlain, command_of, runs_as, one_step, one_permutation, statement_of}
use Rattle.poll_book.specs.declared.rows.PointRow.{PointRow}
use Rattle.poll_book.specs.Tables.{Tables, Voids}
use Rattle.office_store.specs.Schema.{meta, office_schema}
use Rattle.office_store.specs.Rows.{stored_point, stored_setting, stored_request, stored_sum, stored_swap, stored_void}
use Rattle.office_store.specs.Swaps.{swaps_of}
use Rattle.office_store.specs.Kept.{AreSwaps, AreVoids, number_rows}
use Rattle.office_store.specs.Blank.{AreSix, AreBlank}
use Rattle.office_store.specs.Earlier.{AreAdded, AreBetween, HaveMoved, StoodFor, WasHeld, numbers_of}
use Rattle.office_store.proofs.Tables.{went, same_value}
use Rattle.office_store.proofs.StayingRows.{readings_stay}
use Rattle.office_store.proofs.FirstRows.{cast_int}
use Rattle.office_store.proofs.Versions.{first_alone, passes_itself, passes_not}

-- two empty tables beside six make eight
pub blank_of : (old new : Database) → AreSix old → AreAdded old new → AreBlank new
blank_of old new six added = record {
  schema = added.schema;
  meta = added.meta ∙ six.meta;
  point = added.point ∙ six.point;
  reading = added.reading ∙ six.reading;
  setting = added.setting ∙ six.setting;
  request = added.request ∙ six.request;
  total = added.total ∙ six.total;
  void = added.void;
  swapped = added.swapped;
}

pub between : (old new : Database) (kept : Tables) → StoodFor old.trees kept → AreAdded old new → AreBetween new kept
between old new kept was added = record {
  schema = added.schema;
  stood = record {
    points = record { stored = ap (map stored_point) added.point ∙ was.points.stored; sorted = was.points.sorted };
    readings = readings_stay old.trees new.trees kept.readings added.reading was.readings;
    settings = record { stored = ap (map stored_setting) added.setting ∙ was.settings.stored; sorted = was.settings.sorted };
    requests = record { entries = was.requests.entries; stored = ap (map stored_request) added.request ∙ was.requests.stored; same = was.requests.same; sorted = was.requests.sorted };
    totals = record { stored = ap (map stored_sum) added.total ∙ was.totals.stored; sorted = was.totals.sorted };
    voids = was.voids;
    unswapped = was.unswapped;
    numbers = added.meta ∙ was.numbers;
  };
  void = added.void;
  swapped = added.swapped;
}

no_voids : (db : Trees) (kept : Voids) → kept ≡ [] → db 10 ≡ [] → AreVoids db kept
no_voids db kept none empty = subst (AreVoids db) (sym none) (record { entries = []; stored = ap (map stored_void) empty; same = IsPermutation-refl []; sorted = tt })

no_swaps : (db : Trees) (points : List PointRow) → swaps_of points ≡ [] → db 12 ≡ [] → AreSwaps db points
no_swaps db points none empty = record { stored = ap (map stored_swap) empty ∙ ap (map Some) (sym none) }

-- tables of version 1 that a query was asked of are still such
pub was_after : (old new : State) (kept : Tables) → WasHeld old kept → IsTrue new.is_open → IsUnchanged old new ⊎ IsRolledBack old new → WasHeld new kept
was_after old new kept was now_open (inl same) = record {
  schema = ap (λ (d : Database). d.schema) same.0.now_is ∙ was.schema;
  settled = same.0.now_is ∙ was.settled ∙ sym same.0.committed_is;
  stood = subst (λ (d : Database). StoodFor d.trees kept) (sym same.0.now_is) was.stood;
}
was_after old new kept was now_open (inr back) =
    let both = back.undone now_open in
    let now : new.now ≡ old.now = both.0 ∙ sym was.settled in
    record {
      schema = ap (λ (d : Database). d.schema) now ∙ was.schema;
      settled = both.0 ∙ sym both.1;
      stood = subst (λ (d : Database). StoodFor d.trees kept) (sym now) was.stood;
    }

pub still_after : (old new : State) → old.now ≡ old.committed → IsTrue new.is_open → IsUnchanged old new ⊎ IsRolledBack old new → (new.now ≡ old.now) × (new.committed ≡ old.committed)
still_after old new settled now_open (inl same) = (same.0.now_is, same.0.committed_is)
still_after old new settled now_open (inr back) = let both = back.undone now_open in (both.0 ∙ sym settled, both.1)

-- ---- the version

abbrev pub set_version_text : List ℕ
set_version_text = codes "UPDATE meta SET value = 2 WHERE name = 'version'"

abbrev set_version_query : Query
set_version_query = record {
  from = inner 0 end;
  filter = op2 (Compare Eq Binary) (col 1 1) (lit (Text (codes "version"))) ∷ [];
  group = None;
  project = col 1 0 ∷ col 1 0 ∷ col 1 1 ∷ lit (Int (pos 2)) ∷ [];
  distinct = false;
  collations = [];
  order = [];
  limit = lit (Int (negsuc 0));
  offset = lit (Int (pos 0));
}

set_version_is : (command_of (understood office_schema set_version_text) ≡ Update 0 (record { lets = []; body = set_version_query })) × IsPlain (understood office_schema set_version_text)
unfolding understood everything
set_version_is = (refl, (refl, refl))

abbrev version_row : ℕ → Row
version_row v = Int (pos 1) ∷ Text (codes "version") ∷ Int (pos v) ∷ []

abbrev number_row : ℕ → Row
number_row n = Int (pos 2) ∷ Text (codes "connections") ∷ Int (pos n) ∷ []

last_left : (n : ℕ) → without_rowid (pos 1) (numbers_of 1 n) ≡ number_row n ∷ []
last_left n = rw (value_cmp-Int (pos 1) (pos 1), value_cmp-Int (pos 2) (pos 1)) refl

put_before : (n : ℕ) → put_row (version_row 2) (number_row n ∷ []) ≡ number_rows n
put_before n = rw (value_cmp-Int (pos 2) (pos 1)) refl

abbrev asked_row : Row
asked_row = Int (pos 1) ∷ version_row 2

abbrev edit : Trees → List Row → Edit
edit db rows = edit_of db meta (ids_of rows) Given 1 rows

module _ (db : Trees) (last : ℕ) (is : db 0 ≡ numbers_of 1 last) where
  asked : (rows : List Row) → IsAnswer set_version_query (overlay db []) [] rows → rows ≡ asked_row ∷ []
  asked rows a =
      let passes = ap (λ b. b && true) passes_itself in
      let fails = ap (λ b. b && true) passes_not in
      let env : Env = [] ∷ version_row 1 ∷ [] in
      let all : List Row → List Env = λ rs. flat_map (λ r. if list_all (holds ([] ∷ r ∷ [])) set_version_query.filter then ([] ∷ r ∷ []) ∷ [] else []) rs in
      let staged : a.staged ≡ env ∷ [] = a.grouped ∙ ap all is ∙ first_alone env ([] ∷ number_row last ∷ []) _ _ passes fails in
      let kept_is : a.kept ≡ output set_version_query env ∷ [] = a.distinct ∙ ap (map (output set_version_query)) staged in
      let sorted = one_permutation (output set_version_query env) a.ordered (subst (λ k. IsPermutation k a.ordered) kept_is a.same) in
      a.shown ∙ ap (map (λ (o : Output). o.1)) sorted

  news : (edit db (asked_row ∷ [])).news ≡ version_row 2 ∷ []
  news = rw (cast_int (pos 1), cast_int (pos 2)) refl

  filled : edited db (edit db (asked_row ∷ [])) ≡ number_rows last
  filled = ap (put_all (without_rowid (pos 1) (db 0))) news ∙ ap (λ rs. put_row (version_row 2) (without_rowid (pos 1) rs)) is ∙ ap (put_row (version_row 2)) (last_left last) ∙ put_before last

pub moves : (old new : State) (kept : Tables) (r : Result ℕ StoreFault) → AreBetween old.now kept
    → IfOk r (λ n. Executes set_version_text [] old new (Ok n) × Shows old new new.now old.committed true) → OnOk r (HaveMoved new.now kept)
moves old new kept (Err e) was h = tt
moves old new kept (Ok count) was h =
    let db = old.now.trees in
    let stood = was.stood in
    let query : Program = record { lets = []; body = set_version_query } in
    let command = Update 0 query in
    let w = runs_as set_version_text [] old new office_schema was.schema command set_version_is.0 set_version_is.1 count h.0 in
    let text = statement_of set_version_text (understood office_schema set_version_text) in
    let done = went (subst (λ x. Does old.step_limit (mode_of old) [] (record old.now { schema = x }) text None command (Ok (w.tally, new.now))) was.schema w.changed) in
    let now = ap (λ (x : Tally × Database). x.1) (same_value (went (went done.2).2).2) in
    let found = went done.1 in
    let written = went found.2 in
    let trees : done.0.trees ≡ written.0 = ap (λ (it : Written). it.trees) (same_value written.2) in
    let rows = asked db kept.connections stood.numbers found.0 (found.1.answer Null) in
    let made = one_step office_schema Enforced db written.0 (edit db (asked_row ∷ [])) refl (subst (λ x. Writes office_schema Enforced db (edit db x) (Ok written.0)) rows written.1) in
    let at = λ (t : ℕ). ap (λ (d : Database). d.trees t) now ∙ ap (λ (x : Trees). x t) trees in
    let rest = made.tables.1 in
    let points = at 2 ∙ rest.0 (λ e. absurd (omega (arith, e))) in
    let readings = at 4 ∙ rest.1.0 (λ e. absurd (omega (arith, e))) in
    let settings = at 6 ∙ rest.1.1.0 (λ e. absurd (omega (arith, e))) in
    let requests = at 7 ∙ rest.1.1.1.0 (λ e. absurd (omega (arith, e))) in
    let totals = at 9 ∙ rest.1.1.1.1.0 (λ e. absurd (omega (arith, e))) in
    let voids = at 10 ∙ rest.1.1.1.1.1.0 (λ e. absurd (omega (arith, e))) in
    let swapped = at 12 ∙ rest.1.1.1.1.1.1.0 (λ e. absurd (omega (arith, e))) in
    let schema : new.now.schema ≡ office_schema = ap (λ (d : Database). d.schema) now in
    record {
      schema = schema;
      office = record {
        listed = subst (Lists (new.now.trees catalog_tree)) schema w.sound.lists;
        stands = record {
          points = record { stored = ap (map stored_point) points ∙ stood.points.stored; sorted = stood.points.sorted };
          readings = readings_stay old.now.trees new.now.trees kept.readings readings stood.readings;
          settings = record { stored = ap (map stored_setting) settings ∙ stood.settings.stored; sorted = stood.settings.sorted };
          requests = record { entries = stood.requests.entries; stored = ap (map stored_request) requests ∙ stood.requests.stored; same = stood.requests.same; sorted = stood.requests.sorted };
          totals = record { stored = ap (map stored_sum) totals ∙ stood.totals.stored; sorted = stood.totals.sorted };
          voids = no_voids new.now.trees kept.voids stood.voids (voids ∙ was.void);
          swapped = no_swaps new.now.trees kept.points stood.unswapped (swapped ∙ was.swapped);
          numbers = at 0 ∙ made.rows ∙ filled db kept.connections stood.numbers;
        };
      };
    }
