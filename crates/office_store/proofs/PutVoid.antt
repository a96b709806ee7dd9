-- What the insert of a voided pair adds.
use Rattle.std.proofs.Common.{◌≡◌, ℕ, pos, ◌<◌, ◌^◌, List, [], ◌∷◌, true, false, None, Some, Option, Ok, Err, Result, refl, ap, subst, ◌∙◌, arith, IfOk, OnOk, map}
use Rattle.std.specs.Prelude.{⊤, is_some}
use Rattle.std.specs.FinMap.Entries as rows
use Rattle.std.proofs.lemmas.Bool.{lt-ltb}
use Rattle.sqlite_value.specs.declared.value.Value.TheVariants.{Int}
use Rattle.sqlite_value.specs.Order.{Row}
use Rattle.sqlite_trees.specs.Tree.{Trees, put_row}
use Rattle.sqlite_sql.specs.Term.{eval_all}
use Rattle.sqlite_schema.specs.declared.schema.Table.{Table}
use Rattle.sqlite_schema.specs.declared.schema.Keys.TheVariants.{Enforced}
use Rattle.sqlite_schema.specs.declared.command.Source.TheVariants.{Values}
use Rattle.sqlite_schema.specs.declared.command.Command.TheVariants.{Insert}
use Rattle.sqlite_rules.specs.declared.error.Rowids.TheVariants.{Chosen}
use Rattle.sqlite_rules.specs.Edit.{edit_of, next_rowid, is_taken, are_fresh, put_all}
use Rattle.sqlite_rules.specs.Action.{Writes}
use Rattle.poll_book.specs.declared.fault.StoreFault.{StoreFault}
use Rattle.sqlite.specs.Listing.{understood}
use Rattle.sqlite.specs.Effect.{Database}
use Rattle.sqlite.specs.Rows.{Written}
use Rattle.sqlite.specs.Does.{Tally, Does}
use Rattle.sqlite.specs.State.{State, mode_of, Executes, Shows}
use Rattle.sqlite.proofs.Callers.{runs_as, one_step, statement_of}
use Rattle.poll_book.specs.Tables.{Key, Tables, is_void, key_cmp, with_void}
use Rattle.office_store.specs.Schema.{void, office_schema}
use Rattle.office_store.specs.Rows.{stored_point, stored_setting, stored_request, stored_sum, stored_void}
use Rattle.office_store.specs.Writing.{Within}
use Rattle.office_store.proofs.Texts.{put_void_text, put_void_terms, put_void_is}
use Rattle.office_store.proofs.StayingRows.{readings_stay, swaps_stay}
use Rattle.office_store.proofs.Tables.{went, same_value}
use Rattle.office_store.proofs.FirstRows.{cast_null, cast_int}
use Rattle.office_store.proofs.Putting.{put_entry, put_same}
use Rattle.office_store.proofs.PutReading.{only_free}
use Rattle.office_store.proofs.Slots.{keys_total}

abbrev void_table : Table
void_table = record void { tree = 10 }

none_there : (o : Option ⊤) → is_some o ≡ false → o ≡ None
none_there None h = refl
none_there (Some x) h = absurd (cc)

module _ (p s : ℕ) where
  abbrev pub values : Row
  values = Int (pos p) ∷ Int (pos s) ∷ []

  abbrev added : List Row → Row
  added all = Int (next_rowid all) ∷ values

  abbrev entry : Key × ⊤
  entry = ((p, s), tt)

  -- what is written reads back
  entry_added : (all : List Row) → p < 2 ^ 32 → s < 2 ^ 32 → stored_void (added all) ≡ Some entry
  entry_added all a b = rw (lt-ltb p 4294967296 a, lt-ltb s 4294967296 b) refl

  pub adds : (old new : State) (base : Database) (kept : Tables) (r : Result ℕ StoreFault) → p < 2 ^ 32 → s < 2 ^ 32 → Within old base kept → is_void kept.voids (p, s) ≡ false
      → IfOk r (λ n. Executes put_void_text values old new (Ok n) × Shows old new new.now old.committed true) → OnOk r (Within new base (record kept { voids = with_void (p, s) kept.voids }))
  adds old new base kept (Err error) a b within fresh h = tt
  adds old new base kept (Ok count) a b within fresh h =
      let db = old.now.trees in
      let command = Insert 6 (Values put_void_terms 3) in
      let w = runs_as put_void_text values old new office_schema within.schema command put_void_is.0 put_void_is.1 count h.0 in
      let text = statement_of put_void_text (understood office_schema put_void_text) in
      let done = went (subst (λ x. Does old.step_limit (mode_of old) values (record old.now { schema = x }) text None command (Ok (w.tally, new.now))) within.schema w.changed) in
      let now = ap (λ (x : Tally × Database). x.1) (same_value (went (went done.2).2).2) in
      let given = went done.1 in
      let written = went (went given.2).2 in
      let counted = went written.2 in
      let trees : done.0.trees ≡ written.0 = ap (λ (it : Written). it.trees) (same_value counted.2) ∙ same_value counted.1 in
      let edit = λ (all : List Row). edit_of db void_table [] Chosen 0 all in
      let source : List Row = eval_all put_void_terms (values ∷ []) ∷ [] in
      let made = one_step office_schema Enforced db written.0 (edit source) refl (subst (λ all. Writes office_schema Enforced db (edit all) (Ok written.0)) given.1.1 written.1) in
      let news : (edit source).news ≡ added (db 10) ∷ [] = rw (cast_null, cast_int (pos p), cast_int (pos s)) refl in
      let at = λ (t : ℕ). ap (λ (d : Database). d.trees t) now ∙ ap (λ (x : Trees). x t) trees in
      let at_ten : new.now.trees 10 ≡ put_row (added (db 10)) (db 10) = at 10 ∙ made.rows ∙ ap (put_all (db 10)) news in
      let free = only_free (is_taken (db 10) (added (db 10))) (subst (λ rs. are_fresh (db 10) rs ≡ true) news made.fresh) in
      let others = made.tables in
      let meta = at 0 ∙ others.0 (λ e. absurd (omega (arith, e))) in
      let points = at 2 ∙ others.1.0 (λ e. absurd (omega (arith, e))) in
      let readings = at 4 ∙ others.1.1.0 (λ e. absurd (omega (arith, e))) in
      let settings = at 6 ∙ others.1.1.1.0 (λ e. absurd (omega (arith, e))) in
      let requests = at 7 ∙ others.1.1.1.1.0 (λ e. absurd (omega (arith, e))) in
      let totals = at 9 ∙ others.1.1.1.1.1.0 (λ e. absurd (omega (arith, e))) in
      let swapped = at 12 ∙ others.1.1.1.1.1.1.1.0 (λ e. absurd (omega (arith, e))) in
      let was = within.stands in
      let none = none_there (rows.find key_cmp (p, s) kept.voids) fresh in
      let put = put_entry stored_void (added (db 10)) entry (entry_added (db 10) a b) (db 10) was.voids.entries was.voids.stored free in
      record {
        is_open = h.1.is_open;
        inside = h.1.mode;
        schema = ap (λ (d : Database). d.schema) now;
        committed = h.1.committed_is ∙ within.committed;
        sound = w.sound;
        stands = record {
          points = record { stored = ap (map stored_point) points ∙ was.points.stored; sorted = was.points.sorted };
          readings = readings_stay old.now.trees new.now.trees kept.readings readings was.readings;
          settings = record { stored = ap (map stored_setting) settings ∙ was.settings.stored; sorted = was.settings.sorted };
          requests = record { entries = was.requests.entries; stored = ap (map stored_request) requests ∙ was.requests.stored; same = was.requests.same; sorted = was.requests.sorted };
          totals = record { stored = ap (map stored_sum) totals ∙ was.totals.stored; sorted = was.totals.sorted };
          voids = record {
            entries = put.entries;
            stored = ap (map stored_void) at_ten ∙ put.stand;
            same = put_same key_cmp (p, s) tt was.voids.entries put.entries kept.voids was.voids.same none put.same;
            sorted = rows.is_sorted-put key_cmp keys_total (p, s) tt kept.voids was.voids.sorted;
          };
          swapped = swaps_stay old.now.trees new.now.trees kept.points swapped was.swapped;
          numbers = meta ∙ was.numbers;
        };
      }
