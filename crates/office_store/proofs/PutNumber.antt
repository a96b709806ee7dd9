-- What the update of the last connection's number changes.
use Rattle.std.proofs.Common.{◌≡◌, ℕ, pos, List, [], ◌∷◌, map, flat_map, codes, true, ◌&&◌, None, Ok, Err, Result, refl, ap, subst, ◌∙◌, arith, IfOk, OnOk, if◌then◌else◌}
use Rattle.std.specs.List.{list_all}
use Rattle.std.specs.List.Sorted.{IsPermutation}
use Rattle.sqlite_value.specs.declared.value.Value.TheVariants.{Null, Int, Text}
use Rattle.sqlite_value.specs.Order.{Row}
use Rattle.sqlite_value.proofs.OrderLemmas.{value_cmp-Int}
use Rattle.sqlite_trees.specs.Tree.{Trees, put_row, without_rowid}
use Rattle.sqlite_sql.specs.Term.{Env, holds}
use Rattle.sqlite_sql.specs.Query.{IsAnswer, Output, output}
use Rattle.sqlite_sql.specs.Program.{overlay}
use Rattle.sqlite_schema.specs.declared.program.Program.{Program}
use Rattle.sqlite_schema.specs.declared.schema.Keys.TheVariants.{Enforced}
use Rattle.sqlite_schema.specs.declared.command.Command.TheVariants.{Update}
use Rattle.sqlite_rules.specs.declared.error.Rowids.TheVariants.{Given}
use Rattle.sqlite_rules.specs.Edit.{Edit, edit_of, edited, put_all}
use Rattle.sqlite_rules.specs.Calls.{ids_of}
use Rattle.sqlite_rules.specs.Action.{Writes}
use Rattle.poll_book.specs.declared.fault.StoreFault.{StoreFault}
use Rattle.sqlite.specs.Listing.{understood}
use Rattle.sqlite.specs.Effect.{Database}
use Rattle.sqlite.specs.Rows.{Written}
use Rattle.sqlite.specs.Does.{Tally, Does}
use Rattle.sqlite.specs.State.{State, mode_of, Executes, Shows}
use Rattle.sqlite.proofs.Callers.{runs_as, one_step, one_permutation, statement_of}
use Rattle.poll_book.specs.Tables.{Tables}
use Rattle.office_store.specs.Schema.{meta, office_schema}
use Rattle.office_store.specs.Rows.{stored_point, stored_setting, stored_request, stored_sum}
use Rattle.office_store.specs.Kept.{number_rows}
use Rattle.office_store.specs.Writing.{Within}
use Rattle.office_store.proofs.Texts.{put_connection_text, put_connection_query, put_connection_is}
use Rattle.office_store.proofs.Tables.{went, same_value}
use Rattle.office_store.proofs.StayingRows.{readings_stay, swaps_stay, voids_stay}
use Rattle.office_store.proofs.FirstRows.{cast_int}
use Rattle.office_store.proofs.Connections.{passes_not, passes_itself, second_alone}

abbrev version_row : Row
version_row = Int (pos 1) ∷ Text (codes "version") ∷ Int (pos 2) ∷ []

abbrev number_row : ℕ → Row
number_row n = Int (pos 2) ∷ Text (codes "connections") ∷ Int (pos n) ∷ []

first_left : (n : ℕ) → without_rowid (pos 2) (number_rows n) ≡ version_row ∷ []
first_left n = rw (value_cmp-Int (pos 1) (pos 2), value_cmp-Int (pos 2) (pos 2)) refl

put_second : (n : ℕ) → put_row (number_row n) (version_row ∷ []) ≡ number_rows n
put_second n = rw (value_cmp-Int (pos 1) (pos 2)) refl

module _ (number : ℕ) where
  abbrev pub given : Row
  given = Int (pos number) ∷ []

  abbrev asked_row : Row
  asked_row = Int (pos 2) ∷ number_row number

  abbrev edit : Trees → List Row → Edit
  edit db rows = edit_of db meta (ids_of rows) Given 1 rows

  module _ (db : Trees) (last : ℕ) (is : db 0 ≡ number_rows last) where
    asked : (rows : List Row) → IsAnswer put_connection_query (overlay db []) given rows → rows ≡ asked_row ∷ []
    asked rows a =
        let fails = ap (λ b. b && true) passes_not in
        let passes = ap (λ b. b && true) passes_itself in
        let env : Env = given ∷ number_row last ∷ [] in
        let all : List Row → List Env = λ rs. flat_map (λ r. if list_all (holds (given ∷ r ∷ [])) put_connection_query.filter then (given ∷ r ∷ []) ∷ [] else []) rs in
        let staged : a.staged ≡ env ∷ [] = a.grouped ∙ ap all is ∙ second_alone (given ∷ version_row ∷ []) env _ _ fails passes in
        let kept_is : a.kept ≡ output put_connection_query env ∷ [] = a.distinct ∙ ap (map (output put_connection_query)) staged in
        let sorted = one_permutation (output put_connection_query env) a.ordered (subst (λ k. IsPermutation k a.ordered) kept_is a.same) in
        a.shown ∙ ap (map (λ (o : Output). o.1)) sorted

    news : (edit db (asked_row ∷ [])).news ≡ number_row number ∷ []
    news = rw (cast_int (pos 2), cast_int (pos number)) refl

    filled : edited db (edit db (asked_row ∷ [])) ≡ number_rows number
    filled = ap (put_all (without_rowid (pos 2) (db 0))) news ∙ ap (λ rs. put_row (number_row number) (without_rowid (pos 2) rs)) is ∙ ap (put_row (number_row number)) (first_left last) ∙ put_second number

  pub changes : (old new : State) (base : Database) (kept : Tables) (r : Result ℕ StoreFault) → Within old base kept
      → IfOk r (λ n. Executes put_connection_text given old new (Ok n) × Shows old new new.now old.committed true) → OnOk r (Within new base (record kept { connections = number }))
  changes old new base kept (Err e) within h = tt
  changes old new base kept (Ok count) within h =
      let db = old.now.trees in
      let was = within.stands in
      let query : Program = record { lets = []; body = put_connection_query } in
      let command = Update 0 query in
      let w = runs_as put_connection_text given old new office_schema within.schema command put_connection_is.0 put_connection_is.1 count h.0 in
      let text = statement_of put_connection_text (understood office_schema put_connection_text) in
      let done = went (subst (λ x. Does old.step_limit (mode_of old) given (record old.now { schema = x }) text None command (Ok (w.tally, new.now))) within.schema w.changed) in
      let now = ap (λ (x : Tally × Database). x.1) (same_value (went (went done.2).2).2) in
      let found = went done.1 in
      let written = went found.2 in
      let trees : done.0.trees ≡ written.0 = ap (λ (it : Written). it.trees) (same_value written.2) in
      let rows = asked db kept.connections was.numbers found.0 (found.1.answer Null) in
      let made = one_step office_schema Enforced db written.0 (edit db (asked_row ∷ [])) refl (subst (λ x. Writes office_schema Enforced db (edit db x) (Ok written.0)) rows written.1) in
      let at = λ (t : ℕ). ap (λ (d : Database). d.trees t) now ∙ ap (λ (x : Trees). x t) trees in
      let rest = made.tables.1 in
      let points = at 2 ∙ rest.0 (λ e. absurd (omega (arith, e))) in
      let readings = at 4 ∙ rest.1.0 (λ e. absurd (omega (arith, e))) in
      let settings = at 6 ∙ rest.1.1.0 (λ e. absurd (omega (arith, e))) in
      let requests = at 7 ∙ rest.1.1.1.0 (λ e. absurd (omega (arith, e))) in
      let totals = at 9 ∙ rest.1.1.1.1.0 (λ e. absurd (omega (arith, e))) in
      let voids = at 10 ∙ rest.1.1.1.1.1.0 (λ e. absurd (omega (arith, e))) in
      let swapped = at 12 ∙ rest.1.1.1.1.1.1.0 (λ e. absurd (omega (arith, e))) in
      record {
        is_open = h.1.is_open;
        inside = h.1.mode;
        schema = ap (λ (d : Database). d.schema) now;
        committed = h.1.committed_is ∙ within.committed;
        sound = w.sound;
        stands = record {
          points = record { stored = ap (map stored_point) points ∙ was.points.stored; sorted = was.points.sorted };
          readings = readings_stay old.now.trees new.now.trees kept.readings readings was.readings;
          settings = record { stored = ap (map stored_setting) settings ∙ was.settings.stored; sorted = was.settings.sorted };
          requests = record { entries = was.requests.entries; stored = ap (map stored_request) requests ∙ was.requests.stored; same = was.requests.same; sorted = was.requests.sorted };
          totals = record { stored = ap (map stored_sum) totals ∙ was.totals.stored; sorted = was.totals.sorted };
          voids = voids_stay old.now.trees new.now.trees kept.voids voids was.voids;
          swapped = swaps_stay old.now.trees new.now.trees kept.points swapped was.swapped;
          numbers = at 0 ∙ made.rows ∙ filled db kept.connections was.numbers;
        };
      }
