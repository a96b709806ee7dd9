-- What the insert of five readings adds.
use Rattle.std.proofs.Common.{◌≡◌, ◌<◌, ◌≤◌, ℕ, length, slice_index_or, List, [], ◌∷◌, ◌++◌, map, flat_map, Bool, true, false, None, Some, Ok, Err, Result, refl, ap, sym, subst, ◌∙◌, arith, IfOk, if◌then◌else◌}
use Rattle.std.specs.Prelude.{MatchBool}
use Rattle.std.proofs.lemmas.List.{map-append}
use Rattle.std.specs.List.{AllByRecursion}
use Rattle.sqlite_value.specs.declared.value.ValueRef.{ValueRef}
use Rattle.sqlite_value.specs.Order.{Row}
use Rattle.sqlite_trees.specs.Tree.{Trees}
use Rattle.sqlite_trees.specs.View.{IsShaped}
use Rattle.sqlite_trees.specs.declared.store.Shape.TheVariants.{Table as Rowed}
use Rattle.sqlite_schema.specs.declared.schema.Constraint.TheVariants.{Unique}
use Rattle.sqlite_schema.specs.declared.schema.Keys.TheVariants.{Enforced}
use Rattle.sqlite_schema.specs.declared.command.Source.TheVariants.{Values}
use Rattle.sqlite_schema.specs.declared.command.Command.TheVariants.{Insert}
use Rattle.sqlite_rules.specs.declared.error.Rowids.TheVariants.{Chosen}
use Rattle.sqlite_rules.specs.Edit.{edit_of, are_fresh, put_all}
use Rattle.sqlite_rules.specs.Action.{Writes}
use Rattle.sqlite.specs.Listing.{understood}
use Rattle.sqlite.specs.Effect.{Database}
use Rattle.sqlite.specs.Rows.{Written}
use Rattle.sqlite.specs.Does.{Tally, Does}
use Rattle.sqlite.specs.State.{State, mode_of, Executes, IsUnchanged, Shows}
use Rattle.sqlite.specs.Values.{bound}
use Rattle.sqlite.proofs.Callers.{runs_as, one_step, statement_of}
use Rattle.poll_book.specs.declared.fault.StoreFault.{StoreFault}
use Rattle.poll_book.specs.declared.rows.ReadingRow.{ReadingRow}
use Rattle.poll_book.specs.Tables.{Tables, with_rows}
use Rattle.poll_book.specs.Changes.{as_row, as_rows}
use Rattle.office_store.specs.Schema.{office_schema}
use Rattle.office_store.specs.Rows.{IsRowOf, shown_reading, stored_point, stored_reading, stored_setting, stored_request, stored_sum}
use Rattle.office_store.specs.Writing.{Within}
use Rattle.office_store.proofs.Texts.{put_five_text, put_five_terms, put_five_is}
use Rattle.office_store.proofs.StayingRows.{swaps_stay, voids_stay}
use Rattle.office_store.proofs.Tables.{went, same_value}
use Rattle.office_store.proofs.FreeKeys.{not_foreign}
use Rattle.office_store.proofs.PutReading.{reading_table}
use Rattle.office_store.proofs.RowsTogether.{IsAlone, Stand, all_in, news_are, rows_behind, unnumbered, values_of}
use Rattle.office_store.proofs.Unchanged.{still_within}

-- what a pattern of five finds is the whole list
pub five_are : {X : Type 0} (xs : List X) (a b c d e : X) → 5 ≤ length xs → length xs < 6 → a ≡ slice_index_or xs 0 a → b ≡ slice_index_or xs 1 b → c ≡ slice_index_or xs 2 c
    → d ≡ slice_index_or xs 3 d → e ≡ slice_index_or xs 4 e → xs ≡ a ∷ b ∷ c ∷ d ∷ e ∷ []
five_are [] a b c d e few many ha hb hc hd he = absurd (omega arith)
five_are (v ∷ []) a b c d e few many ha hb hc hd he = absurd (omega arith)
five_are (v ∷ w ∷ []) a b c d e few many ha hb hc hd he = absurd (omega arith)
five_are (v ∷ w ∷ x ∷ []) a b c d e few many ha hb hc hd he = absurd (omega arith)
five_are (v ∷ w ∷ x ∷ y ∷ []) a b c d e few many ha hb hc hd he = absurd (omega arith)
five_are (v ∷ w ∷ x ∷ y ∷ z ∷ []) a b c d e few many ha hb hc hd he = cc
five_are (v ∷ w ∷ x ∷ y ∷ z ∷ more ∷ rest) a b c d e few many ha hb hc hd he = absurd (omega arith)

module _ (a b c d e : ReadingRow) where
  -- from the last to the first
  abbrev pub backward : List ReadingRow
  backward = e ∷ d ∷ c ∷ b ∷ a ∷ []

  abbrev pub forward : List ReadingRow
  forward = a ∷ b ∷ c ∷ d ∷ e ∷ []

  abbrev pub values : Row
  values = values_of e ++ values_of d ++ values_of c ++ values_of b ++ values_of a

  abbrev pub Read : Type 0
  Read = AllByRecursion (λ row. shown_reading (values_of row) ≡ Some (as_row row)) backward

  module _ (of_a of_b of_c of_d of_e : List ValueRef) (is_a : IsRowOf a (bound of_a)) (is_b : IsRowOf b (bound of_b)) (is_c : IsRowOf c (bound of_c)) (is_d : IsRowOf d (bound of_d)) (is_e : IsRowOf e (bound of_e)) where
    -- the rows' values one behind the other are the parameters
    pub params_are : (flat : List ValueRef) → flat ≡ flat_map (λ x. x) (of_e ∷ of_d ∷ of_c ∷ of_b ∷ of_a ∷ []) → bound flat ≡ values
    params_are flat is = ap bound is ∙ simp map-append (rw (is_a.are, is_b.are, is_c.are, is_d.are, is_e.are) refl)

    -- and each of them reads back
    pub all_read : Read
    all_read = (rw is_e.are at is_e.reads, (rw is_d.are at is_d.reads, (rw is_c.are at is_c.reads, (rw is_b.are at is_b.reads, (rw is_a.are at is_a.reads, tt)))))

  pub adds : (old new : State) (base : Database) (kept : Tables) (count : ℕ) → Read → Within old base kept
      → Executes put_five_text values old new (Ok count) → Shows old new new.now old.committed true → Within new base (record kept { readings = with_rows (as_rows forward) kept.readings })
  adds old new base kept count back within h shows =
      let db = old.now.trees in
      let command = Insert 2 (Values put_five_terms 5) in
      let w = runs_as put_five_text values old new office_schema within.schema command put_five_is.0 put_five_is.1 count h in
      let text = statement_of put_five_text (understood office_schema put_five_text) in
      let done = went (subst (λ x. Does old.step_limit (mode_of old) values (record old.now { schema = x }) text None command (Ok (w.tally, new.now))) within.schema w.changed) in
      let now = ap (λ (x : Tally × Database). x.1) (same_value (went (went done.2).2).2) in
      let given = went done.1 in
      let written = went (went given.2).2 in
      let counted = went written.2 in
      let trees : done.0.trees ≡ written.0 = ap (λ (it : Written). it.trees) (same_value counted.2) ∙ same_value counted.1 in
      let edit = λ (all : List Row). edit_of db reading_table [] Chosen 0 all in
      let source : List Row = map unnumbered backward in
      let made = one_step office_schema Enforced db written.0 (edit source) refl (subst (λ all. Writes office_schema Enforced db (edit all) (Ok written.0)) given.1.1 written.1) in
      let news : (edit source).news ≡ rows_behind (db 4) backward = news_are (db 4) backward in
      let at = λ (t : ℕ). ap (λ (d : Database). d.trees t) now ∙ ap (λ (x : Trees). x t) trees in
      let end = put_all (db 4) (rows_behind (db 4) backward) in
      let put : written.0 4 ≡ end = made.rows ∙ ap (put_all (db 4)) news in
      let at_four : new.now.trees 4 ≡ end = at 4 ∙ put in
      let fresh = subst (λ rs. are_fresh (db 4) rs ≡ true) news made.fresh in
      let others = made.tables in
      let meta = at 0 ∙ others.0 (λ e. absurd (omega (arith, e))) in
      let points = at 2 ∙ others.1.0 (λ e. absurd (omega (arith, e))) in
      let settings = at 6 ∙ others.1.1.1.0 (λ e. absurd (omega (arith, e))) in
      let requests = at 7 ∙ others.1.1.1.1.0 (λ e. absurd (omega (arith, e))) in
      let totals = at 9 ∙ others.1.1.1.1.1.0 (λ e. absurd (omega (arith, e))) in
      let voids = at 10 ∙ others.1.1.1.1.1.1.0 (λ e. absurd (omega (arith, e))) in
      let swapped = at 12 ∙ others.1.1.1.1.1.1.1.0 (λ e. absurd (omega (arith, e))) in
      let was = within.stands in
      let alone = subst (λ all. AllByRecursion (IsAlone all) all) put (made.fits.rules Unique not_foreign).1.1.0 in
      let stood : Stand (db 4) kept.readings = record { entries = was.readings.entries; stored = was.readings.stored; numbered = was.readings.numbered; same = was.readings.same; sorted = was.readings.sorted } in
      let stand = all_in backward (db 4) kept.readings back fresh alone stood in
      record {
        is_open = shows.is_open;
        inside = shows.mode;
        schema = ap (λ (d : Database). d.schema) now;
        committed = shows.committed_is ∙ within.committed;
        sound = w.sound;
        stands = record {
          points = record { stored = ap (map stored_point) points ∙ was.points.stored; sorted = was.points.sorted };
          readings = record {
            entries = stand.entries;
            stored = ap (map stored_reading) at_four ∙ stand.stored;
            numbered = subst (IsShaped Rowed) (sym at_four) stand.numbered;
            same = stand.same;
            sorted = stand.sorted;
          };
          settings = record { stored = ap (map stored_setting) settings ∙ was.settings.stored; sorted = was.settings.sorted };
          requests = record { entries = was.requests.entries; stored = ap (map stored_request) requests ∙ was.requests.stored; same = was.requests.same; sorted = was.requests.sorted };
          totals = record { stored = ap (map stored_sum) totals ∙ was.totals.stored; sorted = was.totals.sorted };
          voids = voids_stay old.now.trees new.now.trees kept.voids voids was.voids;
          swapped = swaps_stay old.now.trees new.now.trees kept.points swapped was.swapped;
          numbers = meta ∙ was.numbers;
        };
      }

  -- they are added, or nothing has changed
  pub adds_if : (old new : State) (base : Database) (kept : Tables) (r : Result Bool StoreFault) → Read → Within old base kept
      → IfOk r (λ is_added. MatchBool is_added ((n : ℕ) × Executes put_five_text values old new (Ok n) × Shows old new new.now old.committed true) (IsUnchanged old new))
      → IfOk r (λ is_added. Within new base (if is_added then record kept { readings = with_rows (as_rows forward) kept.readings } else kept))
  adds_if old new base kept (Ok true) back within h = adds old new base kept h.0 back within h.1 h.2
  adds_if old new base kept (Ok false) back within h = still_within old new base kept h within
  adds_if old new base kept (Err why) back within h = tt
