-- What the insert of a request adds.
use Rattle.std.proofs.Common.{◌≡◌, ℕ, pos, List, [], ◌∷◌, Bool, true, None, Some, Ok, Err, Option, Result, refl, ap, subst, ◌∙◌, arith, IfOk, OnOk, map, option_and_then, option_map}
use Rattle.std.specs.FinMap.Entries as rows
use Rattle.sqlite_value.specs.declared.value.Value.TheVariants.{Int, Text, Blob}
use Rattle.sqlite_value.specs.Order.{Row}
use Rattle.sqlite_trees.specs.Tree.{Trees, put_row}
use Rattle.sqlite_sql.specs.Term.{eval_all}
use Rattle.sqlite_schema.specs.declared.schema.Table.{Table}
use Rattle.sqlite_schema.specs.declared.schema.Keys.TheVariants.{Enforced}
use Rattle.sqlite_schema.specs.declared.command.Source.TheVariants.{Values}
use Rattle.sqlite_schema.specs.declared.command.Command.TheVariants.{Insert}
use Rattle.sqlite_rules.specs.declared.error.Rowids.TheVariants.{Chosen}
use Rattle.sqlite_rules.specs.Edit.{edit_of, next_rowid, is_taken, are_fresh, put_all}
use Rattle.sqlite_rules.specs.Action.{Writes}
use Rattle.poll_book.specs.declared.fault.StoreFault.{StoreFault}
use Rattle.sqlite.specs.Listing.{understood}
use Rattle.sqlite.specs.Effect.{Database}
use Rattle.sqlite.specs.Rows.{Written}
use Rattle.sqlite.specs.Does.{Tally, Does}
use Rattle.sqlite.specs.State.{State, mode_of, Executes, Shows}
use Rattle.sqlite.proofs.Callers.{runs_as, one_step, statement_of}
use Rattle.poll_book.specs.Callers.{is_caller, is_key}
use Rattle.poll_book.specs.declared.requests.Body.{Body}
use Rattle.poll_book.specs.declared.requests.Outcome.{Outcome}
use Rattle.poll_book.specs.declared.requests.KeptRequest.{KeptRequest}
use Rattle.poll_book.specs.Requests.{RequestKey, request_cmp, request_at, with_request}
use Rattle.poll_book.specs.Tables.{Tables}
use Rattle.office_store.specs.Schema.{request, office_schema}
use Rattle.office_store.specs.Rows.{stored_point, stored_setting, stored_request, stored_sum, text_that, body_of, outcome_of}
use Rattle.office_store.specs.Writing.{Within}
use Rattle.office_store.proofs.Texts.{put_request_text, put_request_terms, put_request_is}
use Rattle.office_store.proofs.Tables.{went, same_value}
use Rattle.office_store.proofs.StayingRows.{readings_stay, swaps_stay, voids_stay}
use Rattle.office_store.proofs.FirstRows.{cast_null, cast_int}
use Rattle.office_store.proofs.Putting.{put_entry, put_same}
use Rattle.office_store.proofs.PutReading.{only_free}
use Rattle.office_store.proofs.ByKey.{requests_total}

abbrev request_table : Table
request_table = record request { tree = 7 }

-- the parts of a row that are in the form make its entry
joined : (e : RequestKey × KeptRequest) (caller key : Option (List ℕ)) (body : Option Body) (outcome : Option Outcome) → caller ≡ Some e.0.0 → key ≡ Some e.0.1 → body ≡ Some e.1.body → outcome ≡ Some e.1.outcome
    → option_and_then (λ c. option_and_then (λ k. option_and_then (λ b. option_map (λ o. let entry : RequestKey × KeptRequest = ((c, k), record { body = b; outcome = o }) in entry) outcome) body) key) caller ≡ Some e
joined e caller key body outcome c k b o = rw (c, k, b, o) refl

module _ (kind : ℕ) (bytes : List ℕ) (answer a b c : ℕ) (e : RequestKey × KeptRequest) where
  abbrev pub values : Row
  values = Text e.0.0 ∷ Text e.0.1 ∷ Int (pos kind) ∷ Blob bytes ∷ Int (pos answer) ∷ Int (pos a) ∷ Int (pos b) ∷ Int (pos c) ∷ []

  abbrev added : List Row → Row
  added all = Int (next_rowid all) ∷ values

  -- what is kept in the columns reads back
  pub record IsCoded : Type 0 where
    pub caller : is_caller e.0.0 ≡ true
    pub key : is_key e.0.1 ≡ true
    pub body : body_of (Int (pos kind)) (Blob bytes) ≡ Some e.1.body
    pub outcome : outcome_of (Int (pos answer)) (Int (pos a)) (Int (pos b)) (Int (pos c)) ≡ Some e.1.outcome

  text_back : (test : List ℕ → Bool) (text : List ℕ) → test text ≡ true → text_that test (Text text) ≡ Some text
  text_back test text is = rw is refl

  request_added : (all : List Row) → IsCoded → stored_request (added all) ≡ Some e
  request_added all coded =
      joined e (text_that is_caller (Text e.0.0)) (text_that is_key (Text e.0.1)) (body_of (Int (pos kind)) (Blob bytes)) (outcome_of (Int (pos answer)) (Int (pos a)) (Int (pos b)) (Int (pos c)))
      (text_back is_caller e.0.0 coded.caller) (text_back is_key e.0.1 coded.key) coded.body coded.outcome

  pub adds : (old new : State) (base : Database) (kept : Tables) (r : Result ℕ StoreFault) → IsCoded → Within old base kept → request_at kept.requests e.0 ≡ None
      → IfOk r (λ n. Executes put_request_text values old new (Ok n) × Shows old new new.now old.committed true) → OnOk r (Within new base (record kept { requests = with_request e.0 e.1 kept.requests }))
  adds old new base kept (Err error) coded within none h = tt
  adds old new base kept (Ok count) coded within none h =
      let db = old.now.trees in
      let command = Insert 4 (Values put_request_terms 9) in
      let w = runs_as put_request_text values old new office_schema within.schema command put_request_is.0 put_request_is.1 count h.0 in
      let text = statement_of put_request_text (understood office_schema put_request_text) in
      let done = went (subst (λ x. Does old.step_limit (mode_of old) values (record old.now { schema = x }) text None command (Ok (w.tally, new.now))) within.schema w.changed) in
      let now = ap (λ (x : Tally × Database). x.1) (same_value (went (went done.2).2).2) in
      let given = went done.1 in
      let written = went (went given.2).2 in
      let counted = went written.2 in
      let trees : done.0.trees ≡ written.0 = ap (λ (it : Written). it.trees) (same_value counted.2) ∙ same_value counted.1 in
      let edit = λ (all : List Row). edit_of db request_table [] Chosen 0 all in
      let source : List Row = eval_all put_request_terms (values ∷ []) ∷ [] in
      let made = one_step office_schema Enforced db written.0 (edit source) refl (subst (λ all. Writes office_schema Enforced db (edit all) (Ok written.0)) given.1.1 written.1) in
      let news : (edit source).news ≡ added (db 7) ∷ [] = rw (cast_null, cast_int (pos kind), cast_int (pos answer), cast_int (pos a), cast_int (pos b), cast_int (pos c)) refl in
      let at = λ (t : ℕ). ap (λ (d : Database). d.trees t) now ∙ ap (λ (x : Trees). x t) trees in
      let at_seven : new.now.trees 7 ≡ put_row (added (db 7)) (db 7) = at 7 ∙ made.rows ∙ ap (put_all (db 7)) news in
      let free = only_free (is_taken (db 7) (added (db 7))) (subst (λ rs. are_fresh (db 7) rs ≡ true) news made.fresh) in
      let others = made.tables in
      let meta = at 0 ∙ others.0 (λ e. absurd (omega (arith, e))) in
      let points = at 2 ∙ others.1.0 (λ e. absurd (omega (arith, e))) in
      let readings = at 4 ∙ others.1.1.0 (λ e. absurd (omega (arith, e))) in
      let settings = at 6 ∙ others.1.1.1.0 (λ e. absurd (omega (arith, e))) in
      let totals = at 9 ∙ others.1.1.1.1.1.0 (λ e. absurd (omega (arith, e))) in
      let voids = at 10 ∙ others.1.1.1.1.1.1.0 (λ e. absurd (omega (arith, e))) in
      let swapped = at 12 ∙ others.1.1.1.1.1.1.1.0 (λ e. absurd (omega (arith, e))) in
      let was = within.stands in
      let put = put_entry stored_request (added (db 7)) e (request_added (db 7) coded) (db 7) was.requests.entries was.requests.stored free in
      record {
        is_open = h.1.is_open;
        inside = h.1.mode;
        schema = ap (λ (d : Database). d.schema) now;
        committed = h.1.committed_is ∙ within.committed;
        sound = w.sound;
        stands = record {
          points = record { stored = ap (map stored_point) points ∙ was.points.stored; sorted = was.points.sorted };
          readings = readings_stay old.now.trees new.now.trees kept.readings readings was.readings;
          settings = record { stored = ap (map stored_setting) settings ∙ was.settings.stored; sorted = was.settings.sorted };
          requests = record {
            entries = put.entries;
            stored = ap (map stored_request) at_seven ∙ put.stand;
            same = put_same request_cmp e.0 e.1 was.requests.entries put.entries kept.requests was.requests.same none put.same;
            sorted = rows.is_sorted-put request_cmp requests_total e.0 e.1 kept.requests was.requests.sorted;
          };
          totals = record { stored = ap (map stored_sum) totals ∙ was.totals.stored; sorted = was.totals.sorted };
          voids = voids_stay old.now.trees new.now.trees kept.voids voids was.voids;
          swapped = swaps_stay old.now.trees new.now.trees kept.points swapped was.swapped;
          numbers = meta ∙ was.numbers;
        };
      }
