-- What the insert of the next order adds.
use Rattle.std.proofs.Common.{◌≡◌, ℕ, pos, ◌+◌, ◌<◌, ◌≤◌, ◌^◌, List, [], ◌∷◌, length, true, None, Some, Ok, Err, Result, refl, sym, ap, subst, ◌∙◌, arith, IfOk, OnOk, map}
use Rattle.std.specs.List.{AllByRecursion}
use Rattle.std.specs.FinMap.Entries as rows
use Rattle.std.proofs.lemmas.Bool.{lt-ltb}
use Rattle.sqlite_value.specs.declared.value.Value.TheVariants.{Null, Int, Blob}
use Rattle.sqlite_value.specs.Order.{Row}
use Rattle.sqlite_trees.specs.Tree.{Trees, put_row}
use Rattle.sqlite_sql.specs.Term.{eval_all}
use Rattle.sqlite_schema.specs.declared.schema.Table.{Table}
use Rattle.sqlite_schema.specs.declared.schema.Keys.TheVariants.{Enforced}
use Rattle.sqlite_schema.specs.declared.command.Source.TheVariants.{Values}
use Rattle.sqlite_schema.specs.declared.command.Command.TheVariants.{Insert}
use Rattle.sqlite_rules.specs.declared.error.Rowids.TheVariants.{Chosen}
use Rattle.sqlite_rules.specs.Edit.{edit_of, put_all}
use Rattle.sqlite_rules.specs.Action.{Writes}
use Rattle.poll_book.specs.declared.fault.StoreFault.{StoreFault}
use Rattle.sqlite.specs.Listing.{understood}
use Rattle.sqlite.specs.Effect.{Database}
use Rattle.sqlite.specs.Rows.{Written}
use Rattle.sqlite.specs.Does.{Tally, Does}
use Rattle.sqlite.specs.State.{State, mode_of, Executes, Shows}
use Rattle.sqlite.proofs.Callers.{runs_as, one_step, statement_of}
use Rattle.poll_book.specs.Tables.{Tables}
use Rattle.office_store.specs.Schema.{setting, office_schema}
use Rattle.office_store.specs.Rows.{stored_point, stored_setting, stored_request, stored_sum, state_of, register_bytes}
use Rattle.office_store.specs.Writing.{Within}
use Rattle.office_store.proofs.Texts.{put_setting_text, put_setting_terms, put_setting_is}
use Rattle.office_store.proofs.Tables.{went, same_value}
use Rattle.office_store.proofs.StayingRows.{readings_stay, swaps_stay, voids_stay}
use Rattle.office_store.proofs.FirstRows.{cast_null, cast_int}
use Rattle.office_store.proofs.Registers.{words_back}
use Rattle.office_store.proofs.ByNumber.{setting_key}
use Rattle.office_store.proofs.Appending.{stands_last, below_next}
use Rattle.office_store.specs.States.{state_number, code_number}
use Rattle.poll_book.specs.declared.rows.Setting.{Setting}
use Rattle.poll_book.specs.declared.rows.OrderState.{OrderState}
use Rattle.poll_book.specs.declared.rows.OrderState.TheVariants.{Waiting, Done, Refused}
use Rattle.poll_book.specs.Orders.{last_order, with_setting}
use Rattle.std.specs.Cmp.{nat_cmp_total}
use Rattle.std.specs.Ordering.{nat_cmp}

abbrev pub setting_table : Table
setting_table = record setting { tree = 6 }

pub state_back : (s : OrderState) → code_number s < 256 → state_of (Int (pos (state_number s))) (Int (pos (code_number s))) ≡ Some s
state_back Waiting low = refl
state_back Done low = refl
state_back (Refused code) low = rw (lt-ltb code 256 low) refl

module _ (n p : ℕ) (words : List ℕ) (standing : OrderState) where
  abbrev pub values : Row
  values = Int (pos n) ∷ Int (pos p) ∷ Blob (register_bytes words) ∷ Int (pos (state_number standing)) ∷ Int (pos (code_number standing)) ∷ []

  abbrev added : Row
  added = Int (pos n) ∷ Null ∷ Int (pos p) ∷ Blob (register_bytes words) ∷ Int (pos (state_number standing)) ∷ Int (pos (code_number standing)) ∷ []

  abbrev value : Setting
  value = record { point = p; words = words; state = standing }

  -- what is written reads back
  pub setting_added : n < 2 ^ 32 → p < 2 ^ 32 → code_number standing < 256 → 0 < length words → length words ≤ 125 → stored_setting added ≡ Some (n, value)
  setting_added a b low some few = rw (lt-ltb n 4294967296 a, lt-ltb p 4294967296 b, words_back words some few, state_back standing low) refl

  pub adds : (old new : State) (base : Database) (kept : Tables) (r : Result ℕ StoreFault) → n < 2 ^ 32 → p < 2 ^ 32 → code_number standing < 256 → 0 < length words → length words ≤ 125 → Within old base kept → n ≡ last_order kept.settings + 1
      → IfOk r (λ k. Executes put_setting_text values old new (Ok k) × Shows old new new.now old.committed true) → OnOk r (Within new base (record kept { settings = with_setting n value kept.settings }))
  adds old new base kept (Err e) a b low some few within next h = tt
  adds old new base kept (Ok count) a b low some few within next h =
      let db = old.now.trees in
      let command = Insert 3 (Values put_setting_terms 6) in
      let w = runs_as put_setting_text values old new office_schema within.schema command put_setting_is.0 put_setting_is.1 count h.0 in
      let text = statement_of put_setting_text (understood office_schema put_setting_text) in
      let done = went (subst (λ x. Does old.step_limit (mode_of old) values (record old.now { schema = x }) text None command (Ok (w.tally, new.now))) within.schema w.changed) in
      let now = ap (λ (x : Tally × Database). x.1) (same_value (went (went done.2).2).2) in
      let given = went done.1 in
      let written = went (went given.2).2 in
      let counted = went written.2 in
      let trees : done.0.trees ≡ written.0 = ap (λ (it : Written). it.trees) (same_value counted.2) ∙ same_value counted.1 in
      let edit = λ (all : List Row). edit_of db setting_table [] Chosen 0 all in
      let source : List Row = eval_all put_setting_terms (values ∷ []) ∷ [] in
      let made = one_step office_schema Enforced db written.0 (edit source) refl (subst (λ all. Writes office_schema Enforced db (edit all) (Ok written.0)) given.1.1 written.1) in
      let news : (edit source).news ≡ added ∷ [] = rw (cast_null, cast_int (pos n), cast_int (pos p), cast_int (pos (state_number standing)), cast_int (pos (code_number standing))) refl in
      let at = λ (t : ℕ). ap (λ (d : Database). d.trees t) now ∙ ap (λ (x : Trees). x t) trees in
      let at_six : new.now.trees 6 ≡ put_row added (db 6) = at 6 ∙ made.rows ∙ ap (put_all (db 6)) news in
      let others = made.tables in
      let meta = at 0 ∙ others.0 (λ e. absurd (omega (arith, e))) in
      let points = at 2 ∙ others.1.0 (λ e. absurd (omega (arith, e))) in
      let readings = at 4 ∙ others.1.1.0 (λ e. absurd (omega (arith, e))) in
      let requests = at 7 ∙ others.1.1.1.1.0 (λ e. absurd (omega (arith, e))) in
      let totals = at 9 ∙ others.1.1.1.1.1.0 (λ e. absurd (omega (arith, e))) in
      let voids = at 10 ∙ others.1.1.1.1.1.1.0 (λ e. absurd (omega (arith, e))) in
      let swapped = at 12 ∙ others.1.1.1.1.1.1.1.0 (λ e. absurd (omega (arith, e))) in
      let was = within.stands in
      let below = subst (λ m. AllByRecursion (λ e. e.0 < m) kept.settings) (sym next) (below_next kept.settings was.settings.sorted) in
      let stored = stands_last stored_setting setting_key added n value refl (setting_added a b low some few) (db 6) kept.settings was.settings.stored below in
      record {
        is_open = h.1.is_open;
        inside = h.1.mode;
        schema = ap (λ (d : Database). d.schema) now;
        committed = h.1.committed_is ∙ within.committed;
        sound = w.sound;
        stands = record {
          points = record { stored = ap (map stored_point) points ∙ was.points.stored; sorted = was.points.sorted };
          readings = readings_stay old.now.trees new.now.trees kept.readings readings was.readings;
          settings = record { stored = ap (map stored_setting) at_six ∙ stored; sorted = rows.is_sorted-put nat_cmp nat_cmp_total n value kept.settings was.settings.sorted };
          requests = record { entries = was.requests.entries; stored = ap (map stored_request) requests ∙ was.requests.stored; same = was.requests.same; sorted = was.requests.sorted };
          totals = record { stored = ap (map stored_sum) totals ∙ was.totals.stored; sorted = was.totals.sorted };
          voids = voids_stay old.now.trees new.now.trees kept.voids voids was.voids;
          swapped = swaps_stay old.now.trees new.now.trees kept.points swapped was.swapped;
          numbers = meta ∙ was.numbers;
        };
      }
