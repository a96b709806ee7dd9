-- What the update of an order changes.
use Rattle.std.proofs.Common.{◌≡◌, ◌^◌, ◌<◌, ℕ, pos, List, [], ◌∷◌, map, flat_map, Bool, true, ◌&&◌, None, Some, Ok, Err, Option, Result, refl, sym, ap, subst, ◌∙◌, arith, IfOk, OnOk, if◌then◌else◌, option_and_then, option_map}
use Rattle.std.specs.List.{list_all}
use Rattle.std.specs.List.Sorted.{IsPermutation}
use Rattle.sqlite_value.specs.declared.value.Value.TheVariants.{Null, Int}
use Rattle.sqlite_value.specs.Order.{Row, column}
use Rattle.sqlite_trees.specs.Tree.{Trees, without_rowid}
use Rattle.sqlite_sql.specs.Term.{Env, holds}
use Rattle.sqlite_sql.specs.Query.{IsAnswer, Output, output}
use Rattle.sqlite_sql.specs.Program.{overlay}
use Rattle.sqlite_schema.specs.declared.program.Program.{Program}
use Rattle.sqlite_schema.specs.declared.schema.Keys.TheVariants.{Enforced}
use Rattle.sqlite_schema.specs.declared.command.Command.TheVariants.{Update}
use Rattle.sqlite_rules.specs.declared.error.Rowids.TheVariants.{Given}
use Rattle.sqlite_rules.specs.Edit.{Edit, edit_of, put_all}
use Rattle.sqlite_rules.specs.Calls.{ids_of}
use Rattle.sqlite_rules.specs.Action.{Writes}
use Rattle.poll_book.specs.declared.fault.StoreFault.{StoreFault}
use Rattle.sqlite.specs.Listing.{understood}
use Rattle.sqlite.specs.Effect.{Database}
use Rattle.sqlite.specs.Rows.{Written}
use Rattle.sqlite.specs.Does.{Tally, Does}
use Rattle.sqlite.specs.State.{State, mode_of, Executes, Shows}
use Rattle.sqlite.proofs.Callers.{runs_as, one_step, one_permutation, statement_of}
use Rattle.poll_book.specs.Tables.{Tables}
use Rattle.office_store.specs.Schema.{office_schema}
use Rattle.office_store.specs.Rows.{stored_point, stored_setting, stored_request, stored_sum, number_of, words_of, state_of}
use Rattle.office_store.specs.Writing.{Within}
use Rattle.office_store.proofs.Texts.{settle_text, settle_query, settle_is}
use Rattle.office_store.proofs.Tables.{went, same_value}
use Rattle.office_store.proofs.StayingRows.{readings_stay, swaps_stay, voids_stay}
use Rattle.office_store.proofs.FirstRows.{cast_null, cast_int}
use Rattle.office_store.proofs.PutSetting.{setting_table, state_back}
use Rattle.office_store.proofs.ByNumber.{setting_key, alone_and}
use Rattle.office_store.proofs.Comparing.{compares, and_then_some, map_some, number_is}
use Rattle.office_store.proofs.Settling.{over}
use Rattle.office_store.specs.States.{state_number, code_number}
use Rattle.poll_book.specs.declared.rows.Setting.{Setting}
use Rattle.poll_book.specs.declared.rows.OrderState.{OrderState}
use Rattle.poll_book.specs.Orders.{setting_at, with_setting}
use Rattle.std.specs.FinMap.Entries as rows
use Rattle.std.specs.Ordering.{nat_cmp, is_eq}
use Rattle.std.specs.Cmp.{nat_cmp_total}
use Rattle.sqlite_value.specs.declared.keys.Collation.TheVariants.{Binary}
use Rattle.sqlite_sql.specs.declared.ops.BinaryOp.TheVariants.{Compare}
use Rattle.sqlite_sql.specs.declared.ops.CompareOp.TheVariants.{Eq}
use Rattle.sqlite_sql.specs.Ops.{binary, is_true}
use Rattle.sqlite_value.specs.declared.value.Value.{Value}

module _ (n : ℕ) (standing : OrderState) where
  abbrev pub given : Row
  given = Int (pos n) ∷ Int (pos (state_number standing)) ∷ Int (pos (code_number standing)) ∷ []

  abbrev env : Row → Env
  env r = given ∷ r ∷ []

  abbrev passes : Row → Bool
  passes r = list_all (holds (env r)) settle_query.filter

  agree : (r : Row) (e : ℕ × Setting) → stored_setting r ≡ Some e → passes r ≡ is_eq (nat_cmp e.0 n)
  agree r e h =
      let tests = λ (v : Value). is_true (binary (Compare Eq Binary) v (Int (pos n))) && true in
      ap tests (setting_key r e h) ∙ alone_and _ ∙ compares Eq e.0 n

  module _ (before : Setting) where
    abbrev after : Setting
    after = record before { state = standing }

    -- a row of the order, with the new numbers
    abbrev changed : Row → Row
    changed r = Int (pos n) ∷ Null ∷ Int (pos before.point) ∷ column r 3 ∷ Int (pos (state_number standing)) ∷ Int (pos (code_number standing)) ∷ []

    abbrev asked_row : Row → Row
    asked_row r = Int (pos n) ∷ changed r

    made_of : Option ℕ → Option ℕ → Option (List ℕ) → Option OrderState → Option (ℕ × Setting)
    made_of a b c d = option_and_then (λ k. option_and_then (λ p. option_and_then (λ w. option_map (λ s. (k, record { point = p; words = w; state = s })) d) c) b) a

    columns : (r : Row) → code_number standing < 256 → stored_setting r ≡ Some (n, before) → (column r 0 ≡ Int (pos n)) × (column r 2 ≡ Int (pos before.point)) × (stored_setting (changed r) ≡ Some (n, after))
    unfolding made_of
    columns r low h =
        let k = and_then_some _ (number_of (column r 0)) _ h in
        let p = and_then_some _ (number_of (column r 2)) _ k.2 in
        let w = and_then_some _ (words_of (column r 3)) _ p.2 in
        let s = map_some _ (state_of (column r 4) (column r 5)) _ w.2 in
        let number = k.1 ∙ ap (λ (x : ℕ × Setting). Some x.0) s.2 in
        let point = p.1 ∙ ap (λ (x : ℕ × Setting). Some x.1.point) s.2 in
        let words = w.1 ∙ ap (λ (x : ℕ × Setting). Some x.1.words) s.2 in
        let first = number_is (2 ^ 32) (column r 0) n number in
        let second = number_is (2 ^ 32) (column r 2) before.point point in
        let again = ap number_of (sym first) ∙ number in
        let there = ap number_of (sym second) ∙ point in
        let state = state_back standing low in (
          first,
          second,
          ap (λ o. made_of o (number_of (Int (pos before.point))) (words_of (column r 3)) (state_of (Int (pos (state_number standing))) (Int (pos (code_number standing))))) again
              ∙ ap (λ o. made_of (Some n) o (words_of (column r 3)) (state_of (Int (pos (state_number standing))) (Int (pos (code_number standing))))) there
              ∙ ap (λ o. made_of (Some n) (Some before.point) o (state_of (Int (pos (state_number standing))) (Int (pos (code_number standing))))) words
              ∙ ap (made_of (Some n) (Some before.point) (Some before.words)) state,
        )

    abbrev edit : Trees → List Row → Edit
    edit db rows = edit_of db setting_table (ids_of rows) Given 1 rows

    module _ (db : Trees) (row : Row) (first : column row 0 ≡ Int (pos n)) (second : column row 2 ≡ Int (pos before.point)) (hit : flat_map (λ r. if passes r then env r ∷ [] else []) (db 6) ≡ env row ∷ []) where
      asked : (rows : List Row) → IsAnswer settle_query (overlay db []) given rows → rows ≡ asked_row row ∷ []
      asked rows a =
          let kept_is : a.kept ≡ output settle_query (env row) ∷ [] = a.distinct ∙ ap (map (output settle_query)) (a.grouped ∙ hit) in
          let sorted = one_permutation (output settle_query (env row)) a.ordered (subst (λ k. IsPermutation k a.ordered) kept_is a.same) in
          a.shown ∙ ap (map (λ (o : Output). o.1)) sorted
          ∙ ap (λ v. (v ∷ v ∷ Null ∷ column row 2 ∷ column row 3 ∷ Int (pos (state_number standing)) ∷ Int (pos (code_number standing)) ∷ []) ∷ []) first
          ∙ ap (λ v. (Int (pos n) ∷ Int (pos n) ∷ Null ∷ v ∷ column row 3 ∷ Int (pos (state_number standing)) ∷ Int (pos (code_number standing)) ∷ []) ∷ []) second

      news : (edit db (asked_row row ∷ [])).news ≡ changed row ∷ []
      news = rw (cast_int (pos n), cast_null, cast_int (pos before.point), cast_int (pos (state_number standing)), cast_int (pos (code_number standing))) refl

    pub settles : (old new : State) (base : Database) (kept : Tables) (r : Result ℕ StoreFault) → code_number standing < 256 → Within old base kept → setting_at kept.settings n ≡ Some before
        → IfOk r (λ k. Executes settle_text given old new (Ok k) × Shows old new new.now old.committed true) → OnOk r (Within new base (record kept { settings = with_setting n after kept.settings }))
    settles old new base kept (Err e) low within found h = tt
    settles old new base kept (Ok count) low within found h =
        let db = old.now.trees in
        let was = within.stands in
        let it = over stored_setting setting_key passes env n agree after (db 6) kept.settings before was.settings.stored was.settings.sorted found in
        let parts = columns it.row low it.is in
        let query : Program = record { lets = []; body = settle_query } in
        let command = Update 3 query in
        let w = runs_as settle_text given old new office_schema within.schema command settle_is.0 settle_is.1 count h.0 in
        let text = statement_of settle_text (understood office_schema settle_text) in
        let done = went (subst (λ x. Does old.step_limit (mode_of old) given (record old.now { schema = x }) text None command (Ok (w.tally, new.now))) within.schema w.changed) in
        let now = ap (λ (x : Tally × Database). x.1) (same_value (went (went done.2).2).2) in
        let result = went done.1 in
        let written = went result.2 in
        let trees : done.0.trees ≡ written.0 = ap (λ (x : Written). x.trees) (same_value written.2) in
        let rows_are = asked db it.row parts.0 parts.1 it.hit result.0 (result.1.answer Null) in
        let made = one_step office_schema Enforced db written.0 (edit db (asked_row it.row ∷ [])) refl (subst (λ x. Writes office_schema Enforced db (edit db x) (Ok written.0)) rows_are written.1) in
        let at = λ (t : ℕ). ap (λ (d : Database). d.trees t) now ∙ ap (λ (x : Trees). x t) trees in
        let others = made.tables in
        let meta = at 0 ∙ others.0 (λ e. absurd (omega (arith, e))) in
        let points = at 2 ∙ others.1.0 (λ e. absurd (omega (arith, e))) in
        let readings = at 4 ∙ others.1.1.0 (λ e. absurd (omega (arith, e))) in
        let requests = at 7 ∙ others.1.1.1.1.0 (λ e. absurd (omega (arith, e))) in
        let totals = at 9 ∙ others.1.1.1.1.1.0 (λ e. absurd (omega (arith, e))) in
        let voids = at 10 ∙ others.1.1.1.1.1.1.0 (λ e. absurd (omega (arith, e))) in
        let swapped = at 12 ∙ others.1.1.1.1.1.1.1.0 (λ e. absurd (omega (arith, e))) in
        let at_six = at 6 ∙ made.rows ∙ ap (put_all (without_rowid (pos n) (db 6))) (news db it.row parts.0 parts.1 it.hit) in
        record {
          is_open = h.1.is_open;
          inside = h.1.mode;
          schema = ap (λ (d : Database). d.schema) now;
          committed = h.1.committed_is ∙ within.committed;
          sound = w.sound;
          stands = record {
            points = record { stored = ap (map stored_point) points ∙ was.points.stored; sorted = was.points.sorted };
            readings = readings_stay old.now.trees new.now.trees kept.readings readings was.readings;
            settings = record { stored = ap (map stored_setting) at_six ∙ it.put (changed it.row) (refl, parts.2); sorted = rows.is_sorted-put nat_cmp nat_cmp_total n after kept.settings was.settings.sorted };
            requests = record { entries = was.requests.entries; stored = ap (map stored_request) requests ∙ was.requests.stored; same = was.requests.same; sorted = was.requests.sorted };
            totals = record { stored = ap (map stored_sum) totals ∙ was.totals.stored; sorted = was.totals.sorted };
            voids = voids_stay old.now.trees new.now.trees kept.voids voids was.voids;
            swapped = swaps_stay old.now.trees new.now.trees kept.points swapped was.swapped;
            numbers = meta ∙ was.numbers;
          };
        }
