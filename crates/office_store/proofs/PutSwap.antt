-- What the insert of the number of the last point, which is swapped, adds.
use Rattle.std.proofs.Common.{◌≡◌, ◌^◌, ◌<◌, ℕ, pos, List, [], ◌∷◌, ◌++◌, map, true, None, Some, Ok, Err, Result, refl, sym, ap, subst, ◌∙◌, arith, IfOk, OnOk}
use Rattle.std.specs.List.{AllByRecursion}
use Rattle.std.proofs.lemmas.Bool.{lt-ltb}
use Rattle.std.proofs.lemmas.List.{map-append}
use Rattle.sqlite_value.specs.declared.value.Value.TheVariants.{Null, Int}
use Rattle.sqlite_value.specs.Order.{Row}
use Rattle.sqlite_trees.specs.Tree.{Trees, put_row}
use Rattle.sqlite_sql.specs.Term.{eval_all}
use Rattle.sqlite_schema.specs.declared.schema.Table.{Table}
use Rattle.sqlite_schema.specs.declared.schema.Keys.TheVariants.{Enforced}
use Rattle.sqlite_schema.specs.declared.command.Source.TheVariants.{Values}
use Rattle.sqlite_schema.specs.declared.command.Command.TheVariants.{Insert}
use Rattle.sqlite_rules.specs.declared.error.Rowids.TheVariants.{Chosen}
use Rattle.sqlite_rules.specs.Edit.{edit_of, put_all}
use Rattle.sqlite_rules.specs.Action.{Writes}
use Rattle.poll_book.specs.declared.fault.StoreFault.{StoreFault}
use Rattle.sqlite.specs.Listing.{understood}
use Rattle.sqlite.specs.Effect.{Database}
use Rattle.sqlite.specs.Rows.{Written}
use Rattle.sqlite.specs.Does.{Tally, Does}
use Rattle.sqlite.specs.State.{State, mode_of, Executes, Shows}
use Rattle.sqlite.proofs.Callers.{runs_as, one_step, statement_of}
use Rattle.point_list.specs.declared.point.Point.{Point}
use Rattle.poll_book.specs.declared.rows.PointRow.{PointRow}
use Rattle.poll_book.specs.Tables.{Tables}
use Rattle.office_store.specs.Schema.{swapped, office_schema}
use Rattle.office_store.specs.Rows.{stored_point, stored_setting, stored_request, stored_sum, stored_swap}
use Rattle.office_store.specs.Swaps.{comes_swapped, plain, swaps_of}
use Rattle.office_store.specs.Writing.{Within}
use Rattle.office_store.proofs.Texts.{put_swap_text, put_swap_terms, put_swap_is}
use Rattle.office_store.proofs.Tables.{went, same_value}
use Rattle.office_store.proofs.StayingRows.{readings_stay, voids_stay}
use Rattle.office_store.proofs.FirstRows.{cast_null, cast_int}
use Rattle.office_store.proofs.Appending.{stands_last, put_last}
use Rattle.office_store.proofs.PlainPoints.{same_order}
use Rattle.office_store.proofs.Swapping.{no_swap_more, one_swap_more, swaps_low}
use Rattle.office_store.proofs.ShownSwaps.{swap_key}

abbrev pub swapped_table : Table
swapped_table = record swapped { tree = 12 }

module _ (n : ℕ) (point : Point) (swaps : comes_swapped point.order ≡ true) where
  abbrev pub values : Row
  values = Int (pos n) ∷ []

  abbrev added : Row
  added = Int (pos n) ∷ Null ∷ []

  abbrev known : PointRow
  known = record { number = n; point = point }

  -- what is written reads back
  swap_added : n < 2 ^ 32 → stored_swap added ≡ Some (n, tt)
  swap_added low = rw (lt-ltb n 4294967296 low) refl

  same_but_order : (points : List PointRow) → map plain (points ++ plain known ∷ []) ≡ map plain (points ++ known ∷ [])
  same_but_order points = map-append plain points (plain known ∷ []) ∙ sym (map-append plain points (known ∷ []))

  one_more : (all : List Row) (points : List PointRow) → n < 2 ^ 32 → map stored_swap all ≡ map Some (swaps_of (points ++ plain known ∷ [])) → AllByRecursion (λ p. p.number < n) points
      → map stored_swap (put_row added all) ≡ map Some (swaps_of (points ++ known ∷ []))
  one_more all points low stored below =
      let lower = swaps_low n points below in
      let before = stored ∙ ap (map Some) (no_swap_more points (plain known) refl) in
      stands_last stored_swap swap_key added n tt refl (swap_added low) all (swaps_of points) before lower
      ∙ ap (map Some) (put_last n tt (swaps_of points) lower ∙ sym (one_swap_more points known swaps))

  pub adds : (old new : State) (base : Database) (kept : Tables) (r : Result ℕ StoreFault) → n < 2 ^ 32 → AllByRecursion (λ p. p.number < n) kept.points
      → Within old base (record kept { points = kept.points ++ plain known ∷ [] })
      → IfOk r (λ k. Executes put_swap_text values old new (Ok k) × Shows old new new.now old.committed true) → OnOk r (Within new base (record kept { points = kept.points ++ known ∷ [] }))
  adds old new base kept (Err e) low below within h = tt
  adds old new base kept (Ok count) low below within h =
      let db = old.now.trees in
      let command = Insert 7 (Values put_swap_terms 2) in
      let w = runs_as put_swap_text values old new office_schema within.schema command put_swap_is.0 put_swap_is.1 count h.0 in
      let text = statement_of put_swap_text (understood office_schema put_swap_text) in
      let done = went (subst (λ x. Does old.step_limit (mode_of old) values (record old.now { schema = x }) text None command (Ok (w.tally, new.now))) within.schema w.changed) in
      let now = ap (λ (x : Tally × Database). x.1) (same_value (went (went done.2).2).2) in
      let given = went done.1 in
      let written = went (went given.2).2 in
      let counted = went written.2 in
      let trees : done.0.trees ≡ written.0 = ap (λ (it : Written). it.trees) (same_value counted.2) ∙ same_value counted.1 in
      let edit = λ (all : List Row). edit_of db swapped_table [] Chosen 0 all in
      let source : List Row = eval_all put_swap_terms (values ∷ []) ∷ [] in
      let made = one_step office_schema Enforced db written.0 (edit source) refl (subst (λ all. Writes office_schema Enforced db (edit all) (Ok written.0)) given.1.1 written.1) in
      let news : (edit source).news ≡ added ∷ [] = rw (cast_null, cast_int (pos n)) refl in
      let at = λ (t : ℕ). ap (λ (d : Database). d.trees t) now ∙ ap (λ (x : Trees). x t) trees in
      let at_twelve : new.now.trees 12 ≡ put_row added (db 12) = at 12 ∙ made.rows ∙ ap (put_all (db 12)) news in
      let others = made.tables in
      let meta = at 0 ∙ others.0 (λ e. absurd (omega (arith, e))) in
      let points = at 2 ∙ others.1.0 (λ e. absurd (omega (arith, e))) in
      let readings = at 4 ∙ others.1.1.0 (λ e. absurd (omega (arith, e))) in
      let settings = at 6 ∙ others.1.1.1.0 (λ e. absurd (omega (arith, e))) in
      let requests = at 7 ∙ others.1.1.1.1.0 (λ e. absurd (omega (arith, e))) in
      let totals = at 9 ∙ others.1.1.1.1.1.0 (λ e. absurd (omega (arith, e))) in
      let voids = at 10 ∙ others.1.1.1.1.1.1.0 (λ e. absurd (omega (arith, e))) in
      let was = within.stands in
      record {
        is_open = h.1.is_open;
        inside = h.1.mode;
        schema = ap (λ (d : Database). d.schema) now;
        committed = h.1.committed_is ∙ within.committed;
        sound = w.sound;
        stands = record {
          points = record {
            stored = ap (map stored_point) points ∙ was.points.stored ∙ ap (map Some) (same_but_order kept.points);
            sorted = same_order (kept.points ++ plain known ∷ []) (kept.points ++ known ∷ []) (same_but_order kept.points) was.points.sorted;
          };
          readings = readings_stay old.now.trees new.now.trees kept.readings readings was.readings;
          settings = record { stored = ap (map stored_setting) settings ∙ was.settings.stored; sorted = was.settings.sorted };
          requests = record { entries = was.requests.entries; stored = ap (map stored_request) requests ∙ was.requests.stored; same = was.requests.same; sorted = was.requests.sorted };
          totals = record { stored = ap (map stored_sum) totals ∙ was.totals.stored; sorted = was.totals.sorted };
          voids = voids_stay old.now.trees new.now.trees kept.voids voids was.voids;
          swapped = record { stored = ap (map stored_swap) at_twelve ∙ one_more (db 12) kept.points low was.swapped.stored below };
          numbers = meta ∙ was.numbers;
        };
      }
