-- What the update of a reading's mark changes.
use Rattle.std.proofs.Common.{◌≡◌, ℕ, ℤ, pos, List, [], ◌∷◌, map, flat_map, length, Bool, true, false, cond, not, ◌&&◌, Some, None, Ok, Err, Option, Result, IsTrue, IfOk, option_and_then, option_map, refl, sym, ap, ap₂, subst, ◌∙◌, arith, T, if◌then◌else◌}
use Rattle.std.specs.Prelude.{unwrap_or}
use Rattle.std.specs.List.{AllByRecursion, filter, list_all}
use Rattle.std.specs.List.Sorted.{IsPermutation}
use Rattle.std.specs.FinMap.Entries as rows
use Rattle.std.specs.declared.cmp.Ordering.{Ordering}
use Rattle.std.specs.declared.cmp.Ordering.TheVariants.{Less, Equal, Greater}
use Rattle.std.specs.Ordering.{eq_by_cmp, is_eq, ordering_reverse}
use Rattle.std.specs.Cmp.{IsTotalOrder, int_cmp_total, tied_itself}
use Rattle.std.proofs.lemmas.List.Sorted.{IsPermutation-map, IsPermutation-sym, length_permutation}
use Rattle.sqlite_value.specs.declared.value.Value.{Value}
use Rattle.sqlite_value.specs.declared.value.Value.TheVariants.{Null, Int, Real, Text, Blob}
use Rattle.sqlite_value.specs.declared.keys.Collation.TheVariants.{Binary}
use Rattle.sqlite_value.specs.Order.{Row, column, value_cmp}
use Rattle.sqlite_value.proofs.OrderLemmas.{value_cmp-Int, value_cmp_total}
use Rattle.sqlite_trees.specs.Tree.{Trees, IsTable, has_rowid, put_row, rowid, without_rowid}
use Rattle.sqlite_trees.specs.View.{IsShaped, is_int}
use Rattle.sqlite_trees.specs.declared.store.Shape.TheVariants.{Table as Rowed}
use Rattle.sqlite_trees.proofs.ListLemmas.{IsPermutation-filter}
use Rattle.sqlite_trees.proofs.TreeLemmas.{IsShaped-filter, IsShaped-put_row}
use Rattle.sqlite_sql.specs.declared.ops.BinaryOp.TheVariants.{Compare}
use Rattle.sqlite_sql.specs.declared.ops.CompareOp.TheVariants.{Eq}
use Rattle.sqlite_sql.specs.Ops.{binary, is_true}
use Rattle.sqlite_sql.specs.Term.{Env, holds}
use Rattle.sqlite_sql.specs.Query.{IsAnswer, Output, output}
use Rattle.sqlite_sql.specs.Program.{overlay}
use Rattle.sqlite_schema.specs.declared.program.Program.{Program}
use Rattle.sqlite_schema.specs.declared.schema.Keys.TheVariants.{Enforced}
use Rattle.sqlite_schema.specs.declared.command.Command.TheVariants.{Update}
use Rattle.sqlite_rules.specs.declared.error.Rowids.TheVariants.{Given}
use Rattle.sqlite_rules.specs.Edit.{Edit, edit_of, put_all}
use Rattle.sqlite_rules.specs.Calls.{ids_of}
use Rattle.sqlite_rules.specs.Action.{Writes}
use Rattle.sqlite.specs.Listing.{understood}
use Rattle.sqlite.specs.Effect.{Database}
use Rattle.sqlite.specs.Rows.{Written}
use Rattle.sqlite.specs.Does.{Tally, Does}
use Rattle.sqlite.specs.State.{State, mode_of, Executes, Shows}
use Rattle.sqlite.proofs.Callers.{runs_as, one_step, one_permutation, statement_of}
use Rattle.poll_book.specs.declared.fault.StoreFault.{StoreFault}
use Rattle.poll_book.specs.declared.rows.Reading.{Reading}
use Rattle.poll_book.specs.Tables.{Key, Readings, Tables, key_cmp, reading_at, with_row}
use Rattle.poll_book.specs.Changes.{HasWords}
use Rattle.office_store.specs.Schema.{office_schema}
use Rattle.office_store.specs.Rows.{stored_point, stored_reading, stored_setting, stored_request, stored_sum, flag_of, number_of, words_of}
use Rattle.office_store.specs.Writing.{Within}
use Rattle.office_store.proofs.Texts.{mark_reading_text, mark_reading_query, mark_reading_is}
use Rattle.office_store.proofs.StayingRows.{swaps_stay, voids_stay}
use Rattle.office_store.proofs.Tables.{went, same_value}
use Rattle.office_store.proofs.FirstRows.{cast_int}
use Rattle.office_store.proofs.FreeKeys.{none_left}
use Rattle.office_store.proofs.Comparing.{compares, equals, and_then_some, map_some}
use Rattle.office_store.proofs.Presence.{keep, same}
use Rattle.office_store.proofs.PutReading.{flag_back, reading_table}
use Rattle.office_store.proofs.Slots.{key_columns, keys_exact, keys_total}
use Rattle.office_store.proofs.Sorted.{each_above, both_T, eq_is}

-- ---- a map with the value at a key changed

module _ {K X : Type 0} (R : K → K → Ordering) (o : IsTotalOrder R) (k : K) (passes : K × X → Bool) (tells : (e : K × X) → passes e ≡ eq_by_cmp R k e.0) (change : X → X) where
  abbrev pub changed_at : K × X → K × X
  changed_at e = if passes e then (e.0, change e.1) else e

  above_none : (es : List (K × X)) → AllByRecursion (λ e. R k e.0 ≡ Less) es → (filter passes es ≡ []) × (map changed_at es ≡ es)
  above_none [] h = (refl, refl)
  above_none (e ∷ es) h =
      let other : passes e ≡ false = tells e ∙ ap is_eq h.0 in
      let more = above_none es h.1 in
      (rw other more.0, rw other (ap (λ xs. e ∷ xs) more.1))

  -- one entry has the key, and to put another value there is to change it
  pub one_entry : (exact : (x y : K) → R x y ≡ Equal → x ≡ y) → (es : List (K × X)) (v : X) → T (rows.is_sorted R es) → rows.find R k es ≡ Some v
      → (filter passes es ≡ (k, v) ∷ []) × (rows.put R k (change v) es ≡ map changed_at es)
  one_entry exact [] v sorted found = absurd (cc)
  one_entry exact (e ∷ es) v sorted found =
      let both = both_T _ _ sorted in
      by (R k e.0) refl (each_above R o e.0 es both.0) (one_entry exact es v both.1)
    where
      by : (r : Ordering) → R k e.0 ≡ r → AllByRecursion (λ x. R e.0 x.0 ≡ Less) es → (rows.find R k es ≡ Some v → (filter passes es ≡ (k, v) ∷ []) × (rows.put R k (change v) es ≡ map changed_at es))
          → (filter passes (e ∷ es) ≡ (k, v) ∷ []) × (rows.put R k (change v) (e ∷ es) ≡ map changed_at (e ∷ es))
      by Less is above rest =
          let further : (xs : List (K × X)) → AllByRecursion (λ x. R e.0 x.0 ≡ Less) xs → rows.find R k xs ≡ None = never is in
          absurd (let bad = rw is at found in let none = sym (further es above) ∙ bad in cc)
        where
          never : R k e.0 ≡ Less → (xs : List (K × X)) → AllByRecursion (λ x. R e.0 x.0 ≡ Less) xs → rows.find R k xs ≡ None
          never is [] h = refl
          never is (x ∷ xs) h = let low = o.trans k e.0 x.0 is h.0 in rw low (never is xs h.1)
      by Equal is above rest =
          let here : passes e ≡ true = tells e ∙ ap is_eq is in
          let key : k ≡ e.0 = exact k e.0 is in
          let value : Some e.1 ≡ Some v = rw is at found in
          let one : e.1 ≡ v = cc in
          let others = above_none es (subst (λ (q : K). AllByRecursion (λ (x : K × X). R q x.0 ≡ Less) es) (sym key) above) in (
            rw (here, others.0) (ap₂ (λ (q : K) (x : X). (q, x) ∷ []) (sym key) one),
            rw (is, here, others.1) (ap (λ (x : X). (e.0, change x) ∷ es) (sym one)),
          )
      by Greater is above rest =
          let other : passes e ≡ false = tells e ∙ ap is_eq is in
          let more = rest (rw is at found) in
          (rw other more.0, rw (is, other) (ap (λ xs. e ∷ xs) more.1))

-- ---- the row of a reading

module _ (p s : ℕ) (flag : Bool) where
  abbrev pub given : Row
  given = Int (pos p) ∷ Int (pos s) ∷ Int (if flag then pos 1 else pos 0) ∷ []

  abbrev env : Row → Env
  env r = given ∷ r ∷ []

  abbrev passes : Row → Bool
  passes r = list_all (holds (env r)) mark_reading_query.filter

  abbrev marked : Reading → Reading
  marked r = record r { counted = flag }

  abbrev after : Key × Reading → Key × Reading
  after = changed_at key_cmp keys_total (p, s) (keep p s) (same p s) marked

  agrees : (r : Row) (e : Key × Reading) → stored_reading r ≡ Some e → passes r ≡ keep p s e
  agrees r e h =
      let it = key_columns r e.0 e.1 h in
      let tests = λ (a b : Value). is_true (binary (Compare Eq Binary) a (Int (pos p))) && (is_true (binary (Compare Eq Binary) b (Int (pos s))) && true) in
      let one = compares Eq e.0.0 p ∙ equals e.0.0 p in
      let two = compares Eq e.0.1 s ∙ equals e.0.1 s in
      ap₂ tests it.0 it.1 ∙ rw (one, two) refl

  -- a row with another mark
  abbrev remarked : ℤ → Row → Row
  remarked id r = Int id ∷ column r 1 ∷ column r 2 ∷ column r 3 ∷ Int (if flag then pos 1 else pos 0) ∷ []

  made_of : Option ℕ → Option ℕ → Option (List ℕ) → Option Bool → Option (Key × Reading)
  made_of a b c d = option_and_then (λ k. option_and_then (λ n. option_and_then (λ w. option_map (λ f. ((k, n), record { words = w; counted = f })) d) c) b) a

  reads_back : (id : ℤ) (r : Row) (e : Key × Reading) → stored_reading r ≡ Some e → stored_reading (remarked id r) ≡ Some (e.0, marked e.1)
  unfolding made_of
  reads_back id r e h =
      let k = and_then_some _ (number_of (column r 1)) _ h in
      let n = and_then_some _ (number_of (column r 2)) _ k.2 in
      let w = and_then_some _ (words_of (column r 3)) _ n.2 in
      let f = map_some _ (flag_of (column r 4)) _ w.2 in
      ap (λ o. made_of o (number_of (column r 2)) (words_of (column r 3)) (flag_of (Int (if flag then pos 1 else pos 0)))) (k.1 ∙ ap (λ (x : Key × Reading). Some x.0.0) f.2)
      ∙ ap (λ o. made_of (Some e.0.0) o (words_of (column r 3)) (flag_of (Int (if flag then pos 1 else pos 0)))) (n.1 ∙ ap (λ (x : Key × Reading). Some x.0.1) f.2)
      ∙ ap (λ o. made_of (Some e.0.0) (Some e.0.1) o (flag_of (Int (if flag then pos 1 else pos 0)))) (w.1 ∙ ap (λ (x : Key × Reading). Some x.1.words) f.2)
      ∙ ap (made_of (Some e.0.0) (Some e.0.1) (Some e.1.words)) (flag_back p s [] flag flag)

  abbrev hits : List Row → List Env
  hits = flat_map (λ r. if passes r then env r ∷ [] else [])

  number_in : (v : Value) → IsTrue (is_int v) → (id : ℤ) × (v ≡ Int id)
  number_in Null h = absurd (cc)
  number_in (Int n) h = (n, refl)
  number_in (Real x) h = absurd (cc)
  number_in (Text t) h = absurd (cc)
  number_in (Blob b) h = absurd (cc)

  -- the rows behind the reading's
  record Behind (id : ℤ) (all : List Row) (es : Readings) : Type 0 where
    pub none : hits all ≡ []
    pub left : without_rowid id all ≡ all
    pub stay : map after es ≡ es
    pub put : (changed : Row) → rowid changed ≡ Int id → put_row changed all ≡ changed ∷ all

  behind : (id : ℤ) (all : List Row) (es : Readings) → map stored_reading all ≡ map Some es → AllByRecursion (λ r. value_cmp (Int id) (rowid r) ≡ Less) all → filter (keep p s) es ≡ [] → Behind id all es
  behind id [] [] h above none = record { none = refl; left = refl; stay = refl; put = λ changed is. refl }
  behind id [] (e ∷ es) h above none = absurd (cc)
  behind id (r ∷ all) [] h above none = absurd (cc)
  behind id (r ∷ all) (e ∷ es) h above none =
      let head : stored_reading r ≡ Some e = cc in
      let tail : map stored_reading all ≡ map Some es = cc in
      by (keep p s e) refl (agrees r e head) none (behind id all es tail above.1)
    where
      turned : value_cmp (rowid r) (Int id) ≡ Greater
      turned = value_cmp_total.antisymm (rowid r) (Int id) ∙ ap ordering_reverse above.0

      by : (b : Bool) → keep p s e ≡ b → passes r ≡ keep p s e → cond b (e ∷ filter (keep p s) es) (filter (keep p s) es) ≡ [] → (filter (keep p s) es ≡ [] → Behind id all es) → Behind id (r ∷ all) (e ∷ es)
      by true is tied none rest = absurd (cc)
      by false is tied none rest =
          let more = rest none in
          let fails : passes r ≡ false = tied ∙ is in
          record {
            none = rw fails more.none;
            left = rw turned (ap (λ xs. r ∷ xs) more.left);
            stay = rw is (ap (λ xs. e ∷ xs) more.stay);
            put = λ changed at. let here = ap (value_cmp (rowid r)) at ∙ turned in rw here refl;
          }

  -- the reading's row, and the rows once it is written over
  record Found (all : List Row) (es : Readings) : Type 0 where
    pub row : Row
    pub entry : Key × Reading
    pub is : stored_reading row ≡ Some entry
    pub id : ℤ
    pub number : rowid row ≡ Int id
    pub passes : keep p s entry ≡ true
    pub hit : hits all ≡ env row ∷ []
    pub above : (v : Value) → AllByRecursion (λ r. value_cmp v (rowid r) ≡ Less) all → value_cmp v (Int id) ≡ Less
    pub put : map stored_reading (put_row (remarked id row) (without_rowid id all)) ≡ map Some (map after es)

  find_row : (all : List Row) (es : Readings) (one : Key × Reading) → map stored_reading all ≡ map Some es → IsTable all → AllByRecursion (λ r. IsTrue (is_int (rowid r))) all
      → filter (keep p s) es ≡ one ∷ [] → Found all es
  find_row [] [] one h up ints found = absurd (cc)
  find_row [] (e ∷ es) one h up ints found = absurd (cc)
  find_row (r ∷ all) [] one h up ints found = absurd (cc)
  find_row (r ∷ all) (e ∷ es) one h up ints found =
      let head : stored_reading r ≡ Some e = cc in
      let tail : map stored_reading all ≡ map Some es = cc in
      by head tail (keep p s e) refl (agrees r e head) found (find_row all es one tail up.1 ints.1)
    where
      by : stored_reading r ≡ Some e → map stored_reading all ≡ map Some es → (b : Bool) → keep p s e ≡ b → passes r ≡ keep p s e
          → cond b (e ∷ filter (keep p s) es) (filter (keep p s) es) ≡ one ∷ [] → (filter (keep p s) es ≡ one ∷ [] → Found all es) → Found (r ∷ all) (e ∷ es)
      by head tail true is tied found rest =
          let none : filter (keep p s) es ≡ [] = cc in
          let it = number_in (rowid r) ints.0 in
          let above = subst (λ (v : Value). AllByRecursion (λ b. value_cmp v (rowid b) ≡ Less) all) it.1 up.0 in
          let past = behind it.0 all es tail above none in
          let passed : passes r ≡ true = tied ∙ is in
          let own : value_cmp (rowid r) (Int it.0) ≡ Equal = ap (λ v. value_cmp v (Int it.0)) it.1 ∙ value_cmp-Int it.0 it.0 ∙ tied_itself int_cmp_total it.0 in
          record {
            row = r;
            entry = e;
            is = head;
            id = it.0;
            number = it.1;
            passes = is;
            hit = rw passed (ap (λ envs. env r ∷ envs) past.none);
            above = λ v low. subst (λ x. value_cmp v x ≡ Less) it.1 low.0;
            put = rw (own, is) (ap (λ xs. map stored_reading (put_row (remarked it.0 r) xs)) past.left ∙ ap (map stored_reading) (past.put (remarked it.0 r) refl)
                ∙ ap₂ (λ (x : Option (Key × Reading)) (xs : List (Option (Key × Reading))). x ∷ xs) (reads_back it.0 r e head) (tail ∙ ap (map Some) (sym past.stay)));
          }
      by head tail false is tied found rest =
          let it = rest found in
          let fails : passes r ≡ false = tied ∙ is in
          let low : value_cmp (rowid r) (Int it.id) ≡ Less = it.above (rowid r) up.0 in
          record {
            row = it.row;
            entry = it.entry;
            is = it.is;
            id = it.id;
            number = it.number;
            passes = it.passes;
            hit = rw fails it.hit;
            above = λ v below. it.above v below.1;
            put = rw (low, low, is) (ap₂ (λ (x : Option (Key × Reading)) (xs : List (Option (Key × Reading))). x ∷ xs) head it.put);
          }

  -- ---- the statement

  abbrev asked_row : ℤ → Row → Row
  asked_row id r = Int id ∷ remarked id r

  abbrev edit : Trees → List Row → Edit
  edit db rows = edit_of db reading_table (ids_of rows) Given 1 rows

  module _ (db : Trees) (row : Row) (id : ℤ) (number : rowid row ≡ Int id) (hit : hits (db 4) ≡ env row ∷ []) where
    asked : (rows : List Row) → IsAnswer mark_reading_query (overlay db []) given rows → rows ≡ asked_row id row ∷ []
    asked rows a =
        let kept_is : a.kept ≡ output mark_reading_query (env row) ∷ [] = a.distinct ∙ ap (map (output mark_reading_query)) (a.grouped ∙ hit) in
        let sorted = one_permutation (output mark_reading_query (env row)) a.ordered (subst (λ k. IsPermutation k a.ordered) kept_is a.same) in
        a.shown ∙ ap (map (λ (o : Output). o.1)) sorted
        ∙ ap (λ v. (v ∷ v ∷ column row 1 ∷ column row 2 ∷ column row 3 ∷ Int (if flag then pos 1 else pos 0) ∷ []) ∷ []) number

    news : column row 1 ≡ Int (pos p) → column row 2 ≡ Int (pos s) → (edit db (asked_row id row ∷ [])).news ≡ remarked id row ∷ []
    news first second = rw (first, second, cast_int id, cast_int (pos p), cast_int (pos s), cast_int (if flag then pos 1 else pos 0)) refl

  pub marks : (old new : State) (base : Database) (kept : Tables) (before : Reading) (count : ℕ) → Within old base kept → reading_at kept.readings (p, s) ≡ Some before
      → Executes mark_reading_text given old new (Ok count) → Shows old new new.now old.committed true → Within new base (record kept { readings = with_row (p, s) (marked before) kept.readings })
  marks old new base kept before count within found h shows =
      let db = old.now.trees in
      let was = within.stands in
      let one = one_entry key_cmp keys_total (p, s) (keep p s) (same p s) marked keys_exact kept.readings before was.readings.sorted found in
      let alone = one_permutation ((p, s), before) (filter (keep p s) was.readings.entries)
      (subst (λ l. IsPermutation l (filter (keep p s) was.readings.entries)) one.0 (IsPermutation-filter (keep p s) kept.readings was.readings.entries (IsPermutation-sym was.readings.entries kept.readings was.readings.same))) in
      let it = find_row (db 4) was.readings.entries ((p, s), before) was.readings.stored was.readings.numbered.0 was.readings.numbered.1 alone in
      let columns = key_columns it.row it.entry.0 it.entry.1 it.is in
      let key : it.entry.0 ≡ (p, s) = sym (keys_exact (p, s) it.entry.0 (eq_is _ (sym (same p s it.entry) ∙ it.passes))) in
      let first = columns.0 ∙ ap (λ (k : Key). Int (pos k.0)) key in
      let second = columns.1 ∙ ap (λ (k : Key). Int (pos k.1)) key in
      let query : Program = record { lets = []; body = mark_reading_query } in
      let command = Update 2 query in
      let w = runs_as mark_reading_text given old new office_schema within.schema command mark_reading_is.0 mark_reading_is.1 count h in
      let text = statement_of mark_reading_text (understood office_schema mark_reading_text) in
      let done = went (subst (λ x. Does old.step_limit (mode_of old) given (record old.now { schema = x }) text None command (Ok (w.tally, new.now))) within.schema w.changed) in
      let now = ap (λ (x : Tally × Database). x.1) (same_value (went (went done.2).2).2) in
      let result = went done.1 in
      let written = went result.2 in
      let trees : done.0.trees ≡ written.0 = ap (λ (x : Written). x.trees) (same_value written.2) in
      let rows_are = asked db it.row it.id it.number it.hit result.0 (result.1.answer Null) in
      let made = one_step office_schema Enforced db written.0 (edit db (asked_row it.id it.row ∷ [])) refl (subst (λ x. Writes office_schema Enforced db (edit db x) (Ok written.0)) rows_are written.1) in
      let at = λ (t : ℕ). ap (λ (d : Database). d.trees t) now ∙ ap (λ (x : Trees). x t) trees in
      let others = made.tables in
      let meta = at 0 ∙ others.0 (λ e. absurd (omega (arith, e))) in
      let points = at 2 ∙ others.1.0 (λ e. absurd (omega (arith, e))) in
      let settings = at 6 ∙ others.1.1.1.0 (λ e. absurd (omega (arith, e))) in
      let requests = at 7 ∙ others.1.1.1.1.0 (λ e. absurd (omega (arith, e))) in
      let totals = at 9 ∙ others.1.1.1.1.1.0 (λ e. absurd (omega (arith, e))) in
      let voids = at 10 ∙ others.1.1.1.1.1.1.0 (λ e. absurd (omega (arith, e))) in
      let swapped = at 12 ∙ others.1.1.1.1.1.1.1.0 (λ e. absurd (omega (arith, e))) in
      let at_four : new.now.trees 4 ≡ put_row (remarked it.id it.row) (without_rowid it.id (db 4)) = at 4 ∙ made.rows ∙ ap (put_all (without_rowid it.id (db 4))) (news db it.row it.id it.number it.hit first second) in
      let moved = subst (IsPermutation (map after was.readings.entries)) (sym one.1) (IsPermutation-map after was.readings.entries kept.readings was.readings.same) in
      record {
        is_open = shows.is_open;
        inside = shows.mode;
        schema = ap (λ (d : Database). d.schema) now;
        committed = shows.committed_is ∙ within.committed;
        sound = w.sound;
        stands = record {
          points = record { stored = ap (map stored_point) points ∙ was.points.stored; sorted = was.points.sorted };
          readings = record {
            entries = map after was.readings.entries;
            stored = ap (map stored_reading) at_four ∙ it.put;
            numbered = subst (IsShaped Rowed) (sym at_four) (IsShaped-put_row (remarked it.id it.row) (without_rowid it.id (db 4)) refl (IsShaped-filter Rowed (λ r. not (has_rowid it.id r)) (db 4) was.readings.numbered));
            same = moved;
            sorted = rows.is_sorted-put key_cmp keys_total (p, s) (marked before) kept.readings was.readings.sorted;
          };
          settings = record { stored = ap (map stored_setting) settings ∙ was.settings.stored; sorted = was.settings.sorted };
          requests = record { entries = was.requests.entries; stored = ap (map stored_request) requests ∙ was.requests.stored; same = was.requests.same; sorted = was.requests.sorted };
          totals = record { stored = ap (map stored_sum) totals ∙ was.totals.stored; sorted = was.totals.sorted };
          voids = voids_stay old.now.trees new.now.trees kept.voids voids was.voids;
          swapped = swaps_stay old.now.trees new.now.trees kept.points swapped was.swapped;
          numbers = meta ∙ was.numbers;
        };
      }

  -- ---- where no reading has the key

  no_hits : (all : List Row) (es : Readings) → map stored_reading all ≡ map Some es → filter (keep p s) es ≡ [] → hits all ≡ []
  no_hits [] [] h none = refl
  no_hits [] (e ∷ es) h none = absurd (cc)
  no_hits (r ∷ all) [] h none = absurd (cc)
  no_hits (r ∷ all) (e ∷ es) h none =
      let head : stored_reading r ≡ Some e = cc in
      let tail : map stored_reading all ≡ map Some es = cc in
      by (keep p s e) (agrees r e head) none (no_hits all es tail)
    where
      by : (b : Bool) → passes r ≡ b → cond b (e ∷ filter (keep p s) es) (filter (keep p s) es) ≡ [] → (filter (keep p s) es ≡ [] → hits all ≡ []) → hits (r ∷ all) ≡ []
      by true tied none rest = absurd (cc)
      by false tied none rest = rw tied (rest none)

  none_there : (es : Readings) → rows.find key_cmp (p, s) es ≡ None → filter (keep p s) es ≡ []
  none_there [] h = refl
  none_there (e ∷ es) h = by (keep p s e) (same p s e) h (none_there es)
    where
      by : (b : Bool) → b ≡ eq_by_cmp key_cmp (p, s) e.0 → rows.find key_cmp (p, s) (e ∷ es) ≡ None → (rows.find key_cmp (p, s) es ≡ None → filter (keep p s) es ≡ []) → cond b (e ∷ filter (keep p s) es) (filter (keep p s) es) ≡ []
      by true is h rest = absurd (let bad = rw (sym is) at h in cc)
      by false is h rest = rest (rw (sym is) at h)

  -- the statement changes no row
  pub marks_none : (old new : State) (base : Database) (kept : Tables) (count : ℕ) → Within old base kept → reading_at kept.readings (p, s) ≡ None
      → Executes mark_reading_text given old new (Ok count) → count ≡ 0
  marks_none old new base kept count within none h =
      let db = old.now.trees in
      let was = within.stands in
      let permuted = length_permutation (filter (keep p s) was.readings.entries) (filter (keep p s) kept.readings) (IsPermutation-filter (keep p s) was.readings.entries kept.readings was.readings.same) in
      let gone = none_left (filter (keep p s) was.readings.entries) (sym permuted ∙ ap length (none_there kept.readings none)) in
      let query : Program = record { lets = []; body = mark_reading_query } in
      let command = Update 2 query in
      let w = runs_as mark_reading_text given old new office_schema within.schema command mark_reading_is.0 mark_reading_is.1 count h in
      let text = statement_of mark_reading_text (understood office_schema mark_reading_text) in
      let done = went (subst (λ x. Does old.step_limit (mode_of old) given (record old.now { schema = x }) text None command (Ok (w.tally, new.now))) within.schema w.changed) in
      let tally = ap (λ (x : Tally × Database). unwrap_or x.0.rows 0) (same_value (went (went done.2).2).2) in
      let result = went done.1 in
      let written = went result.2 in
      let answer = result.1.answer Null in
      let kept_is = answer.distinct ∙ ap (map (output mark_reading_query)) (answer.grouped ∙ no_hits (db 4) was.readings.entries was.readings.stored gone) in
      let ordered = none_left answer.ordered (length_permutation answer.kept answer.ordered answer.same ∙ ap length kept_is) in
      let rows_are : result.0 ≡ [] = answer.shown ∙ ap (map (λ (o : Output). o.1)) ordered in
      let counted = ap (λ (x : Written). length x.rows) (same_value written.2) ∙ ap (λ (l : List Row). length (edit db l).news) rows_are in
      w.counted ∙ tally ∙ counted

  pub marks_if : (old new : State) (base : Database) (kept : Tables) (words : List ℕ) (r : Result ℕ StoreFault) → Within old base kept → HasWords words (reading_at kept.readings (p, s))
      → IfOk r (λ n. Executes mark_reading_text given old new (Ok n) × Shows old new new.now old.committed true)
      → IfOk r (λ n. n ≡ 1 → Within new base (record kept { readings = with_row (p, s) (record { words = words; counted = flag }) kept.readings }))
  marks_if old new base kept words (Err e) within has h = tt
  marks_if old new base kept words (Ok n) within has h = by (reading_at kept.readings (p, s)) refl has
    where
      by : (o : Option Reading) → reading_at kept.readings (p, s) ≡ o → HasWords words o → n ≡ 1 → Within new base (record kept { readings = with_row (p, s) (record { words = words; counted = flag }) kept.readings })
      by None is has one = let zero_is = marks_none old new base kept n within is h.0 in absurd (omega (arith, zero_is, one))
      by (Some before) is has one =
          subst (λ (w : List ℕ). Within new base (record kept { readings = with_row (p, s) (record { words = w; counted = flag }) kept.readings })) has (marks old new base kept before n within is h.0 h.1)
