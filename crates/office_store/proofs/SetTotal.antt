-- What the update of a total changes.
use Rattle.std.proofs.Common.{◌≡◌, ◌^◌, ◌<◌, ℕ, pos, List, [], ◌∷◌, map, flat_map, Bool, true, ◌&&◌, None, Some, Ok, Err, Result, refl, ap, subst, ◌∙◌, arith, IfOk, OnOk, if◌then◌else◌}
use Rattle.std.specs.List.{list_all}
use Rattle.std.specs.List.Sorted.{IsPermutation}
use Rattle.sqlite_value.specs.declared.value.Value.TheVariants.{Null, Int, Blob}
use Rattle.sqlite_value.specs.Order.{Row, column}
use Rattle.sqlite_trees.specs.Tree.{Trees, without_rowid}
use Rattle.sqlite_sql.specs.Term.{Env, holds}
use Rattle.sqlite_sql.specs.Query.{IsAnswer, Output, output}
use Rattle.sqlite_sql.specs.Program.{overlay}
use Rattle.sqlite_schema.specs.declared.program.Program.{Program}
use Rattle.sqlite_schema.specs.declared.schema.Keys.TheVariants.{Enforced}
use Rattle.sqlite_schema.specs.declared.command.Command.TheVariants.{Update}
use Rattle.sqlite_rules.specs.declared.error.Rowids.TheVariants.{Given}
use Rattle.sqlite_rules.specs.Edit.{Edit, edit_of, put_all}
use Rattle.sqlite_rules.specs.Calls.{ids_of}
use Rattle.sqlite_rules.specs.Action.{Writes}
use Rattle.poll_book.specs.declared.fault.StoreFault.{StoreFault}
use Rattle.sqlite.specs.Listing.{understood}
use Rattle.sqlite.specs.Effect.{Database}
use Rattle.sqlite.specs.Rows.{Written}
use Rattle.sqlite.specs.Does.{Tally, Does}
use Rattle.sqlite.specs.State.{State, mode_of, Executes, Shows}
use Rattle.sqlite.proofs.Callers.{runs_as, one_step, one_permutation, statement_of}
use Rattle.office_store.specs.Schema.{office_schema}
use Rattle.office_store.specs.Writing.{Within}
use Rattle.office_store.proofs.Tables.{went, same_value}
use Rattle.office_store.proofs.StayingRows.{readings_stay, swaps_stay, voids_stay}
use Rattle.office_store.proofs.FirstRows.{cast_null, cast_int}
use Rattle.office_store.proofs.Comparing.{compares}
use Rattle.office_store.proofs.Settling.{over}
use Rattle.std.specs.FinMap.Entries as rows
use Rattle.std.specs.Ordering.{nat_cmp, is_eq}
use Rattle.std.specs.Cmp.{nat_cmp_total}
use Rattle.sqlite_value.specs.declared.keys.Collation.TheVariants.{Binary}
use Rattle.sqlite_sql.specs.declared.ops.BinaryOp.TheVariants.{Compare}
use Rattle.sqlite_sql.specs.declared.ops.CompareOp.TheVariants.{Eq}
use Rattle.sqlite_sql.specs.Ops.{binary, is_true}
use Rattle.sqlite_value.specs.declared.value.Value.{Value}
use Rattle.std.specs.Int.{w128, to_be_bytes}
use Rattle.poll_book.specs.Tables.{Tables, sum_at, with_sum}
use Rattle.office_store.specs.Rows.{stored_point, stored_setting, stored_request, stored_sum}
use Rattle.office_store.proofs.Texts.{set_total_text, set_total_query, set_total_is}
use Rattle.office_store.proofs.ByNumber.{alone_and}
use Rattle.office_store.proofs.PutTotal.{added, total_added, total_key, total_table}

module _ (n sum : ℕ) where
  abbrev pub given : Row
  given = Int (pos n) ∷ Blob (to_be_bytes w128 sum) ∷ []

  abbrev env : Row → Env
  env r = given ∷ r ∷ []

  abbrev passes : Row → Bool
  passes r = list_all (holds (env r)) set_total_query.filter

  agree : (r : Row) (e : ℕ × ℕ) → stored_sum r ≡ Some e → passes r ≡ is_eq (nat_cmp e.0 n)
  agree r e h =
      let tests = λ (v : Value). is_true (binary (Compare Eq Binary) v (Int (pos n))) && true in
      ap tests (total_key r e h) ∙ alone_and _ ∙ compares Eq e.0 n

  abbrev asked_row : Row
  asked_row = Int (pos n) ∷ added n sum

  abbrev edit : Trees → List Row → Edit
  edit db rows = edit_of db total_table (ids_of rows) Given 1 rows

  module _ (db : Trees) (row : Row) (first : column row 0 ≡ Int (pos n)) (hit : flat_map (λ r. if passes r then env r ∷ [] else []) (db 9) ≡ env row ∷ []) where
    asked : (rows : List Row) → IsAnswer set_total_query (overlay db []) given rows → rows ≡ asked_row ∷ []
    asked rows a =
        let kept_is : a.kept ≡ output set_total_query (env row) ∷ [] = a.distinct ∙ ap (map (output set_total_query)) (a.grouped ∙ hit) in
        let sorted = one_permutation (output set_total_query (env row)) a.ordered (subst (λ k. IsPermutation k a.ordered) kept_is a.same) in
        a.shown ∙ ap (map (λ (o : Output). o.1)) sorted ∙ ap (λ v. (v ∷ v ∷ Null ∷ Blob (to_be_bytes w128 sum) ∷ []) ∷ []) first

    news : (edit db (asked_row ∷ [])).news ≡ added n sum ∷ []
    news = rw (cast_int (pos n), cast_null) refl

  pub sets : (old new : State) (base : Database) (kept : Tables) (before : ℕ) (r : Result ℕ StoreFault) → n < 2 ^ 32 → sum < 2 ^ 128 → Within old base kept → sum_at kept.totals n ≡ Some before
      → IfOk r (λ k. Executes set_total_text given old new (Ok k) × Shows old new new.now old.committed true) → OnOk r (Within new base (record kept { totals = with_sum n sum kept.totals }))
  sets old new base kept before (Err e) low fits within found h = tt
  sets old new base kept before (Ok count) low fits within found h =
      let db = old.now.trees in
      let was = within.stands in
      let it = over stored_sum total_key passes env n agree sum (db 9) kept.totals before was.totals.stored was.totals.sorted found in
      let first = total_key it.row (n, before) it.is in
      let query : Program = record { lets = []; body = set_total_query } in
      let command = Update 5 query in
      let w = runs_as set_total_text given old new office_schema within.schema command set_total_is.0 set_total_is.1 count h.0 in
      let text = statement_of set_total_text (understood office_schema set_total_text) in
      let done = went (subst (λ x. Does old.step_limit (mode_of old) given (record old.now { schema = x }) text None command (Ok (w.tally, new.now))) within.schema w.changed) in
      let now = ap (λ (x : Tally × Database). x.1) (same_value (went (went done.2).2).2) in
      let result = went done.1 in
      let written = went result.2 in
      let trees : done.0.trees ≡ written.0 = ap (λ (x : Written). x.trees) (same_value written.2) in
      let rows_are = asked db it.row first it.hit result.0 (result.1.answer Null) in
      let made = one_step office_schema Enforced db written.0 (edit db (asked_row ∷ [])) refl (subst (λ x. Writes office_schema Enforced db (edit db x) (Ok written.0)) rows_are written.1) in
      let at = λ (t : ℕ). ap (λ (d : Database). d.trees t) now ∙ ap (λ (x : Trees). x t) trees in
      let others = made.tables in
      let meta = at 0 ∙ others.0 (λ e. absurd (omega (arith, e))) in
      let points = at 2 ∙ others.1.0 (λ e. absurd (omega (arith, e))) in
      let readings = at 4 ∙ others.1.1.0 (λ e. absurd (omega (arith, e))) in
      let settings = at 6 ∙ others.1.1.1.0 (λ e. absurd (omega (arith, e))) in
      let requests = at 7 ∙ others.1.1.1.1.0 (λ e. absurd (omega (arith, e))) in
      let voids = at 10 ∙ others.1.1.1.1.1.1.0 (λ e. absurd (omega (arith, e))) in
      let swapped = at 12 ∙ others.1.1.1.1.1.1.1.0 (λ e. absurd (omega (arith, e))) in
      let at_nine = at 9 ∙ made.rows ∙ ap (put_all (without_rowid (pos n) (db 9))) (news db it.row first it.hit) in
      record {
        is_open = h.1.is_open;
        inside = h.1.mode;
        schema = ap (λ (d : Database). d.schema) now;
        committed = h.1.committed_is ∙ within.committed;
        sound = w.sound;
        stands = record {
          points = record { stored = ap (map stored_point) points ∙ was.points.stored; sorted = was.points.sorted };
          readings = readings_stay old.now.trees new.now.trees kept.readings readings was.readings;
          settings = record { stored = ap (map stored_setting) settings ∙ was.settings.stored; sorted = was.settings.sorted };
          requests = record { entries = was.requests.entries; stored = ap (map stored_request) requests ∙ was.requests.stored; same = was.requests.same; sorted = was.requests.sorted };
          totals = record { stored = ap (map stored_sum) at_nine ∙ it.put (added n sum) (refl, total_added n sum low fits); sorted = rows.is_sorted-put nat_cmp nat_cmp_total n sum kept.totals was.totals.sorted };
          voids = voids_stay old.now.trees new.now.trees kept.voids voids was.voids;
          swapped = swaps_stay old.now.trees new.now.trees kept.points swapped was.swapped;
          numbers = meta ∙ was.numbers;
        };
      }
