-- What the insert of a total adds.
use Rattle.std.proofs.Common.{◌≡◌, ◌^◌, ◌<◌, ℕ, pos, List, [], ◌∷◌, map, true, None, Some, Ok, Err, Result, refl, ap, subst, ◌∙◌, arith, IfOk, OnOk}
use Rattle.std.proofs.lemmas.Bool.{lt-ltb}
use Rattle.std.specs.Int.{w128, to_be_bytes}
use Rattle.std.specs.FinMap.Entries as rows
use Rattle.std.specs.Ordering.{nat_cmp}
use Rattle.std.specs.Cmp.{nat_cmp_total}
use Rattle.sqlite_value.specs.declared.value.Value.TheVariants.{Null, Int, Blob}
use Rattle.sqlite_value.specs.Order.{Row, column}
use Rattle.sqlite_trees.specs.Tree.{Trees, put_row}
use Rattle.sqlite_sql.specs.Term.{eval_all}
use Rattle.sqlite_schema.specs.declared.schema.Table.{Table}
use Rattle.sqlite_schema.specs.declared.schema.Keys.TheVariants.{Enforced}
use Rattle.sqlite_schema.specs.declared.command.Source.TheVariants.{Values}
use Rattle.sqlite_schema.specs.declared.command.Command.TheVariants.{Insert}
use Rattle.sqlite_rules.specs.declared.error.Rowids.TheVariants.{Chosen}
use Rattle.sqlite_rules.specs.Edit.{edit_of, put_all}
use Rattle.sqlite_rules.specs.Action.{Writes}
use Rattle.poll_book.specs.declared.fault.StoreFault.{StoreFault}
use Rattle.sqlite.specs.Listing.{understood}
use Rattle.sqlite.specs.Effect.{Database}
use Rattle.sqlite.specs.Rows.{Written}
use Rattle.sqlite.specs.Does.{Tally, Does}
use Rattle.sqlite.specs.State.{State, mode_of, Executes, Shows}
use Rattle.sqlite.proofs.Callers.{runs_as, one_step, statement_of}
use Rattle.poll_book.specs.Tables.{Tables, sum_at, with_sum}
use Rattle.office_store.specs.Schema.{total, office_schema}
use Rattle.office_store.specs.Rows.{stored_point, stored_setting, stored_request, stored_sum, number_of, wide_of}
use Rattle.office_store.specs.Writing.{Within}
use Rattle.office_store.proofs.Texts.{put_total_text, put_total_terms, put_total_is}
use Rattle.office_store.proofs.Tables.{went, same_value}
use Rattle.office_store.proofs.StayingRows.{readings_stay, swaps_stay, voids_stay}
use Rattle.office_store.proofs.FirstRows.{cast_null, cast_int}
use Rattle.office_store.proofs.Comparing.{and_then_some, map_some, number_is}
use Rattle.office_store.proofs.Sixteen.{from_be_bytes-to_be_bytes_16}
use Rattle.office_store.proofs.Inserting.{stands_in}

abbrev pub total_table : Table
total_table = record total { tree = 9 }

-- the number of a total's point stands in its first column
pub total_key : (r : Row) (e : ℕ × ℕ) → stored_sum r ≡ Some e → column r 0 ≡ Int (pos e.0)
total_key r e h =
    let n = and_then_some _ (number_of (column r 0)) _ h in
    let s = map_some _ (wide_of (column r 2)) _ n.2 in
    number_is (2 ^ 32) (column r 0) e.0 (n.1 ∙ ap (λ (x : ℕ × ℕ). Some x.0) s.2)

module _ (n sum : ℕ) where
  abbrev pub values : Row
  values = Int (pos n) ∷ Blob (to_be_bytes w128 sum) ∷ []

  abbrev pub added : Row
  added = Int (pos n) ∷ Null ∷ Blob (to_be_bytes w128 sum) ∷ []

  -- what is written reads back
  pub total_added : n < 2 ^ 32 → sum < 2 ^ 128 → stored_sum added ≡ Some (n, sum)
  total_added low fits = rw (lt-ltb n 4294967296 low) (ap (λ (s : ℕ). Some (n, s)) (from_be_bytes-to_be_bytes_16 sum fits))

  pub adds : (old new : State) (base : Database) (kept : Tables) (r : Result ℕ StoreFault) → n < 2 ^ 32 → sum < 2 ^ 128 → Within old base kept → sum_at kept.totals n ≡ None
      → IfOk r (λ k. Executes put_total_text values old new (Ok k) × Shows old new new.now old.committed true) → OnOk r (Within new base (record kept { totals = with_sum n sum kept.totals }))
  adds old new base kept (Err e) low fits within none h = tt
  adds old new base kept (Ok count) low fits within none h =
      let db = old.now.trees in
      let command = Insert 5 (Values put_total_terms 3) in
      let w = runs_as put_total_text values old new office_schema within.schema command put_total_is.0 put_total_is.1 count h.0 in
      let text = statement_of put_total_text (understood office_schema put_total_text) in
      let done = went (subst (λ x. Does old.step_limit (mode_of old) values (record old.now { schema = x }) text None command (Ok (w.tally, new.now))) within.schema w.changed) in
      let now = ap (λ (x : Tally × Database). x.1) (same_value (went (went done.2).2).2) in
      let given = went done.1 in
      let written = went (went given.2).2 in
      let counted = went written.2 in
      let trees : done.0.trees ≡ written.0 = ap (λ (it : Written). it.trees) (same_value counted.2) ∙ same_value counted.1 in
      let edit = λ (all : List Row). edit_of db total_table [] Chosen 0 all in
      let source : List Row = eval_all put_total_terms (values ∷ []) ∷ [] in
      let made = one_step office_schema Enforced db written.0 (edit source) refl (subst (λ all. Writes office_schema Enforced db (edit all) (Ok written.0)) given.1.1 written.1) in
      let news : (edit source).news ≡ added ∷ [] = rw (cast_null, cast_int (pos n)) refl in
      let at = λ (t : ℕ). ap (λ (d : Database). d.trees t) now ∙ ap (λ (x : Trees). x t) trees in
      let at_nine : new.now.trees 9 ≡ put_row added (db 9) = at 9 ∙ made.rows ∙ ap (put_all (db 9)) news in
      let others = made.tables in
      let meta = at 0 ∙ others.0 (λ e. absurd (omega (arith, e))) in
      let points = at 2 ∙ others.1.0 (λ e. absurd (omega (arith, e))) in
      let readings = at 4 ∙ others.1.1.0 (λ e. absurd (omega (arith, e))) in
      let settings = at 6 ∙ others.1.1.1.0 (λ e. absurd (omega (arith, e))) in
      let requests = at 7 ∙ others.1.1.1.1.0 (λ e. absurd (omega (arith, e))) in
      let voids = at 10 ∙ others.1.1.1.1.1.1.0 (λ e. absurd (omega (arith, e))) in
      let swapped = at 12 ∙ others.1.1.1.1.1.1.1.0 (λ e. absurd (omega (arith, e))) in
      let was = within.stands in
      let stored = stands_in stored_sum total_key added n sum refl (total_added low fits) (db 9) kept.totals was.totals.stored none in
      record {
        is_open = h.1.is_open;
        inside = h.1.mode;
        schema = ap (λ (d : Database). d.schema) now;
        committed = h.1.committed_is ∙ within.committed;
        sound = w.sound;
        stands = record {
          points = record { stored = ap (map stored_point) points ∙ was.points.stored; sorted = was.points.sorted };
          readings = readings_stay old.now.trees new.now.trees kept.readings readings was.readings;
          settings = record { stored = ap (map stored_setting) settings ∙ was.settings.stored; sorted = was.settings.sorted };
          requests = record { entries = was.requests.entries; stored = ap (map stored_request) requests ∙ was.requests.stored; same = was.requests.same; sorted = was.requests.sorted };
          totals = record { stored = ap (map stored_sum) at_nine ∙ stored; sorted = rows.is_sorted-put nat_cmp nat_cmp_total n sum kept.totals was.totals.sorted };
          voids = voids_stay old.now.trees new.now.trees kept.voids voids was.voids;
          swapped = swaps_stay old.now.trees new.now.trees kept.points swapped was.swapped;
          numbers = meta ∙ was.numbers;
        };
      }
