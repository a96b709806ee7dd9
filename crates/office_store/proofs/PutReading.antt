-- What the insert of a reading adds.
use Rattle.std.proofs.Common.{◌≡◌, ℕ, pos, ◌<◌, ◌≤◌, ◌^◌, List, [], ◌∷◌, length, Bool, true, false, not, ◌&&◌, None, Some, Ok, Err, Result, refl, sym, ap, subst, ◌∙◌, arith, IfOk, map, if◌then◌else◌}
use Rattle.std.specs.Prelude.{MatchBool}
use Rattle.std.specs.List.{AllByRecursion}
use Rattle.std.specs.FinMap.Entries as rows
use Rattle.std.proofs.lemmas.Bool.{lt-ltb}
use Rattle.sqlite_value.specs.declared.value.Value.TheVariants.{Int, Blob}
use Rattle.sqlite_value.specs.Order.{Row}
use Rattle.sqlite_value.specs.Keys.{plain}
use Rattle.sqlite_trees.specs.Tree.{Trees, put_row}
use Rattle.sqlite_trees.specs.View.{IsShaped}
use Rattle.sqlite_trees.specs.declared.store.Shape.TheVariants.{Table as Rowed}
use Rattle.sqlite_trees.proofs.TreeLemmas.{IsShaped-put_row}
use Rattle.sqlite_sql.specs.Term.{eval_all}
use Rattle.sqlite_schema.specs.declared.schema.Constraint.TheVariants.{Unique}
use Rattle.sqlite_schema.specs.declared.schema.Table.{Table}
use Rattle.sqlite_schema.specs.Rules.{clashes, passes}
use Rattle.sqlite_schema.specs.declared.schema.Keys.TheVariants.{Enforced}
use Rattle.sqlite_schema.specs.declared.command.Source.TheVariants.{Values}
use Rattle.sqlite_schema.specs.declared.command.Command.TheVariants.{Insert}
use Rattle.sqlite_rules.specs.declared.error.Rowids.TheVariants.{Chosen}
use Rattle.sqlite_rules.specs.Edit.{edit_of, next_rowid, is_taken, are_fresh, put_all}
use Rattle.sqlite_rules.specs.Action.{Writes}
use Rattle.poll_book.specs.declared.fault.StoreFault.{StoreFault}
use Rattle.sqlite.specs.Listing.{understood}
use Rattle.sqlite.specs.Effect.{Database}
use Rattle.sqlite.specs.Rows.{Written}
use Rattle.sqlite.specs.Does.{Tally, Does}
use Rattle.sqlite.specs.State.{State, mode_of, Executes, IsUnchanged, Shows}
use Rattle.sqlite.proofs.Callers.{runs_as, one_step, statement_of}
use Rattle.poll_book.specs.declared.rows.Reading.{Reading}
use Rattle.poll_book.specs.Tables.{Key, Tables, key_cmp, with_row}
use Rattle.office_store.specs.Schema.{reading, office_schema}
use Rattle.office_store.specs.Rows.{stored_reading, stored_point, stored_setting, stored_request, stored_sum, flag_of, register_bytes}
use Rattle.office_store.specs.Writing.{Within}
use Rattle.office_store.proofs.Texts.{put_reading_text, put_reading_terms, put_reading_is}
use Rattle.office_store.proofs.StayingRows.{swaps_stay, voids_stay}
use Rattle.office_store.proofs.Tables.{went, same_value}
use Rattle.office_store.proofs.FirstRows.{cast_null, cast_int}
use Rattle.office_store.proofs.FreeKeys.{not_foreign, of_new, was_free}
use Rattle.office_store.proofs.Putting.{put_entry, put_same}
use Rattle.office_store.proofs.Registers.{words_back}
use Rattle.office_store.proofs.Slots.{keys_total}
use Rattle.office_store.proofs.Unchanged.{still_within}

abbrev pub reading_table : Table
reading_table = record reading { tree = 4 }

pub only_free : (b : Bool) → (not b && true) ≡ true → b ≡ false
only_free true h = absurd (cc)
only_free false h = refl

module _ (p s : ℕ) (words : List ℕ) (flag : Bool) where
  abbrev pub values : Row
  values = Int (pos p) ∷ Int (pos s) ∷ Blob (register_bytes words) ∷ Int (if flag then pos 1 else pos 0) ∷ []

  abbrev added : List Row → Row
  added all = Int (next_rowid all) ∷ values

  abbrev entry : Key × Reading
  entry = ((p, s), record { words = words; counted = flag })

  pub flag_back : (c : Bool) → flag_of (Int (if c then pos 1 else pos 0)) ≡ Some c
  flag_back true = refl
  flag_back false = refl

  -- what is written reads back
  pub entry_added : (all : List Row) → p < 2 ^ 32 → s < 2 ^ 32 → 0 < length words → length words ≤ 125 → stored_reading (added all) ≡ Some entry
  entry_added all a b some few = rw (lt-ltb p 4294967296 a, lt-ltb s 4294967296 b, words_back words some few, flag_back flag) refl

  pub adds : (old new : State) (base : Database) (kept : Tables) (count : ℕ) → p < 2 ^ 32 → s < 2 ^ 32 → 0 < length words → length words ≤ 125 → Within old base kept
      → Executes put_reading_text values old new (Ok count) → Shows old new new.now old.committed true → Within new base (record kept { readings = with_row (p, s) entry.1 kept.readings })
  adds old new base kept count a b some few within h shows =
      let db = old.now.trees in
      let command = Insert 2 (Values put_reading_terms 5) in
      let w = runs_as put_reading_text values old new office_schema within.schema command put_reading_is.0 put_reading_is.1 count h in
      let text = statement_of put_reading_text (understood office_schema put_reading_text) in
      let done = went (subst (λ x. Does old.step_limit (mode_of old) values (record old.now { schema = x }) text None command (Ok (w.tally, new.now))) within.schema w.changed) in
      let now = ap (λ (x : Tally × Database). x.1) (same_value (went (went done.2).2).2) in
      let given = went done.1 in
      let written = went (went given.2).2 in
      let counted = went written.2 in
      let trees : done.0.trees ≡ written.0 = ap (λ (it : Written). it.trees) (same_value counted.2) ∙ same_value counted.1 in
      let edit = λ (all : List Row). edit_of db reading_table [] Chosen 0 all in
      let source : List Row = eval_all put_reading_terms (values ∷ []) ∷ [] in
      let made = one_step office_schema Enforced db written.0 (edit source) refl (subst (λ all. Writes office_schema Enforced db (edit all) (Ok written.0)) given.1.1 written.1) in
      let news : (edit source).news ≡ added (db 4) ∷ [] = rw (cast_null, cast_int (pos p), cast_int (pos s), cast_int (if flag then pos 1 else pos 0)) refl in
      let at = λ (t : ℕ). ap (λ (d : Database). d.trees t) now ∙ ap (λ (x : Trees). x t) trees in
      let at_four : new.now.trees 4 ≡ put_row (added (db 4)) (db 4) = at 4 ∙ made.rows ∙ ap (put_all (db 4)) news in
      let free = only_free (is_taken (db 4) (added (db 4))) (subst (λ rs. are_fresh (db 4) rs ≡ true) news made.fresh) in
      let others = made.tables in
      let meta = at 0 ∙ others.0 (λ e. absurd (omega (arith, e))) in
      let points = at 2 ∙ others.1.0 (λ e. absurd (omega (arith, e))) in
      let settings = at 6 ∙ others.1.1.1.0 (λ e. absurd (omega (arith, e))) in
      let requests = at 7 ∙ others.1.1.1.1.0 (λ e. absurd (omega (arith, e))) in
      let totals = at 9 ∙ others.1.1.1.1.1.0 (λ e. absurd (omega (arith, e))) in
      let voids = at 10 ∙ others.1.1.1.1.1.1.0 (λ e. absurd (omega (arith, e))) in
      let swapped = at 12 ∙ others.1.1.1.1.1.1.1.0 (λ e. absurd (omega (arith, e))) in
      let was = within.stands in
      let keys = subst (AllByRecursion (λ row. passes Unique office_schema written.0 reading_table row ≡ true)) (made.rows ∙ ap (put_all (db 4)) news) (made.fits.rules Unique not_foreign).1.1.0 in
      let clear = subst (λ all. clashes plain (1 ∷ 2 ∷ []) all (added (db 4)) ≡ false) (made.rows ∙ ap (put_all (db 4)) news) (only_free (clashes plain (1 ∷ 2 ∷ []) (written.0 4) (added (db 4))) (of_new (λ row. passes Unique office_schema written.0 reading_table row ≡ true) (added (db 4)) (db 4) keys)) in
      let none = was_free p s (added (db 4)) refl refl refl (db 4) was.readings.entries kept.readings was.readings.stored was.readings.same was.readings.numbered.1 free clear in
      let put = put_entry stored_reading (added (db 4)) entry (entry_added (db 4) a b some few) (db 4) was.readings.entries was.readings.stored free in
      record {
        is_open = shows.is_open;
        inside = shows.mode;
        schema = ap (λ (d : Database). d.schema) now;
        committed = shows.committed_is ∙ within.committed;
        sound = w.sound;
        stands = record {
          points = record { stored = ap (map stored_point) points ∙ was.points.stored; sorted = was.points.sorted };
          readings = record {
            entries = put.entries;
            stored = ap (map stored_reading) at_four ∙ put.stand;
            numbered = subst (IsShaped Rowed) (sym at_four) (IsShaped-put_row (added (db 4)) (db 4) refl was.readings.numbered);
            same = put_same key_cmp (p, s) entry.1 was.readings.entries put.entries kept.readings was.readings.same none put.same;
            sorted = rows.is_sorted-put key_cmp keys_total (p, s) entry.1 kept.readings was.readings.sorted;
          };
          settings = record { stored = ap (map stored_setting) settings ∙ was.settings.stored; sorted = was.settings.sorted };
          requests = record { entries = was.requests.entries; stored = ap (map stored_request) requests ∙ was.requests.stored; same = was.requests.same; sorted = was.requests.sorted };
          totals = record { stored = ap (map stored_sum) totals ∙ was.totals.stored; sorted = was.totals.sorted };
          voids = voids_stay old.now.trees new.now.trees kept.voids voids was.voids;
          swapped = swaps_stay old.now.trees new.now.trees kept.points swapped was.swapped;
          numbers = meta ∙ was.numbers;
        };
      }

  -- it is added, or nothing has changed
  pub adds_if : (old new : State) (base : Database) (kept : Tables) (r : Result Bool StoreFault) → p < 2 ^ 32 → s < 2 ^ 32 → 0 < length words → length words ≤ 125 → Within old base kept
      → IfOk r (λ is_added. MatchBool is_added ((n : ℕ) × Executes put_reading_text values old new (Ok n) × Shows old new new.now old.committed true) (IsUnchanged old new))
      → IfOk r (λ is_added. Within new base (if is_added then record kept { readings = with_row (p, s) entry.1 kept.readings } else kept))
  adds_if old new base kept (Ok true) a b some few within h = adds old new base kept h.0 a b some few within h.1 h.2
  adds_if old new base kept (Ok false) a b some few within h = still_within old new base kept h within
  adds_if old new base kept (Err e) a b some few within h = tt
