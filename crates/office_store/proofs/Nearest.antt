-- What the queries of the nearest counted reading on either side of a slot show.
use Rattle.std.proofs.Common.{◌≡◌, ℕ, pos, List, [], ◌∷◌, map, take, Bool, true, false, cond, ◌&&◌, ◌==◌, None, Some, Option, Err, Ok, Result, IfOk, refl, sym, ap, ap₂, subst, ◌∙◌, nat_lt, filter, filter_map, T, if◌then◌else◌, arith}
use Rattle.std.specs.List.{cons_option, list_all}
use Rattle.std.specs.List.Sorted.{IsPermutation}
use Rattle.std.specs.Ordering.{is_lt, nat_cmp, ordering_then}
use Rattle.std.specs.declared.cmp.Ordering.{Ordering}
use Rattle.std.specs.declared.cmp.Ordering.TheVariants.{Equal}
use Rattle.std.specs.Cmp.{IsTotalOrder, nat_cmp_total, tied_itself}
use Rattle.std.specs.FinMap.Entries as rows
use Rattle.std.proofs.lemmas.Bool.Decides.{nat_tests}
use Rattle.std.proofs.lemmas.Map.Views.{exact_unsigned_eq}
use Rattle.std.proofs.lemmas.List.Sorted.{IsPermutation-refl, IsPermutation-trans}
use Rattle.sqlite_tied.specs.Compute.{everything}
use Rattle.sqlite_value.specs.declared.value.Value.{Value}
use Rattle.sqlite_value.specs.declared.value.Value.TheVariants.{Null, Int}
use Rattle.sqlite_value.specs.declared.keys.Collation.TheVariants.{Binary}
use Rattle.sqlite_value.specs.declared.keys.Key.{Key as Sort}
use Rattle.sqlite_value.specs.Order.{Row, column}
use Rattle.sqlite_sql.specs.declared.ops.BinaryOp.TheVariants.{Compare}
use Rattle.sqlite_sql.specs.declared.ops.CompareOp.{CompareOp}
use Rattle.sqlite_sql.specs.declared.ops.CompareOp.TheVariants.{Eq, Lt, Gt}
use Rattle.sqlite_sql.specs.Term.{lit, col, op2, holds}
use Rattle.sqlite_sql.specs.Ops.{binary, is_true, test}
use Rattle.sqlite_sql.specs.Query.{Output, Query, inner, end, output, key_cmp as sort_cmp}
use Rattle.sqlite_schema.specs.declared.command.Command.TheVariants.{Select}
use Rattle.sqlite.specs.Listing.{understood, reads_listing}
use Rattle.sqlite.specs.State.{State, Shown}
use Rattle.sqlite.proofs.Callers.{IsPlain, command_of, reads_as}
use Rattle.point_list.specs.declared.point.Point.{Point}
use Rattle.poll_book.specs.declared.rows.PointRow.{PointRow}
use Rattle.poll_book.specs.declared.rows.Reading.{Reading}
use Rattle.poll_book.specs.Tables.{Key, Readings, Tables, key_cmp}
use Rattle.poll_book.specs.Totals.{counted_number, counted_numbers, first_of, last_of, reading_number, value_after, value_before}
use Rattle.office_store.specs.Schema.{office_schema, reading_tree}
use Rattle.office_store.specs.Texts.{value_after_text, value_before_text}
use Rattle.office_store.specs.Rows.{stored_reading, shown_reading, flag_of, number_of, words_of}
use Rattle.office_store.specs.Kept.{IsHeld}
use Rattle.office_store.specs.Counting.{ShowValue}
use Rattle.office_store.proofs.Backward.{backward, backward_same, down, down_exact, down_total, first_is_last, sorted_backward}
use Rattle.office_store.proofs.Comparing.{above, and_then_some, below, compares, equals, falling, map_some, rising, sorts, sorts_down}
use Rattle.office_store.proofs.Showing.{answers, picked}
use Rattle.office_store.proofs.Slots.{all_true, key_columns, keys_exact, keys_total, names, regroup}

-- counted readings of the point on one side of the slot, the nearest first
abbrev side_query : CompareOp → Sort → Query
side_query side order = record {
  from = inner 4 end;
  filter = op2 (Compare Eq Binary) (col 1 1) (col 0 0) ∷ op2 (Compare side Binary) (col 1 2) (col 0 1) ∷ op2 (Compare Eq Binary) (col 1 4) (lit (Int (pos 1))) ∷ [];
  group = None;
  project = col 1 1 ∷ col 1 2 ∷ col 1 3 ∷ col 1 4 ∷ [];
  distinct = false;
  collations = [];
  order = (col 1 2, order) ∷ [];
  limit = lit (Int (pos 1));
  offset = lit (Int (pos 0));
}

abbrev Means : List ℕ → Query → Type 0
Means text query = (command_of (understood office_schema text) ≡ Select (record { lets = []; body = query }) names) × (reads_listing office_schema text ≡ false) × IsPlain (understood office_schema text)

before_is : Means value_before_text (side_query Lt falling)
unfolding understood everything
before_is = (refl, refl, (refl, refl))

after_is : Means value_after_text (side_query Gt rising)
unfolding understood everything
after_is = (refl, refl, (refl, refl))

-- a flag is set exactly where it is kept as 1
flag_set : (v : Value) (b : Bool) → flag_of v ≡ Some b → is_true (binary (Compare Eq Binary) v (Int (pos 1))) ≡ b
flag_set (Int (pos n)) b h = compares Eq n 1 ∙ equals n 1 ∙ by (n == 0) (n == 1) refl refl h
  where
    by : (zero one : Bool) → (n == 0) ≡ zero → (n == 1) ≡ one → (if zero then Some false else (if one then Some true else None)) ≡ Some b → (n == 1) ≡ b
    by true one is_zero is_one e =
        let no : false ≡ b = cc in
        let apart : (n == 1) ≡ false = grind (arith, nat_tests) in
        apart ∙ no
    by false true is_zero is_one e = let yes : true ≡ b = cc in is_one ∙ yes
    by false false is_zero is_one e = absurd (cc)
flag_set _ b h = absurd (cc)

counted_column : (r : Row) (e : Key × Reading) → stored_reading r ≡ Some e → flag_of (column r 4) ≡ Some e.1.counted
counted_column r e h =
    let p = and_then_some _ (number_of (column r 1)) _ h in
    let s = and_then_some _ (number_of (column r 2)) _ p.2 in
    let w = and_then_some _ (words_of (column r 3)) _ s.2 in
    let f = map_some _ (flag_of (column r 4)) _ w.2 in
    f.1 ∙ ap (λ (x : Key × Reading). Some x.1.counted) f.2

-- ---- the numbers of the rows that are kept

-- what the elements that pass give, in one
kept_give : {X : Type 0} (keep : X → Bool) (give : X → Option ℕ) (xs : List X) → filter_map give (filter keep xs) ≡ filter_map (λ x. cond (keep x) (give x) None) xs
kept_give keep give [] = refl
kept_give {X} keep give (x ∷ xs) = by (keep x) (kept_give keep give xs)
  where
    by : (b : Bool) → filter_map give (filter keep xs) ≡ filter_map (λ x. cond (keep x) (give x) None) xs
        → filter_map give (cond b (x ∷ filter keep xs) (filter keep xs)) ≡ cons_option (cond b (give x) None) (filter_map (λ x. cond (keep x) (give x) None) xs)
    by true rest = ap (cons_option (give x)) rest
    by false rest = rest

module _ (known : PointRow) (passes : ℕ → Bool) where
  abbrev keep : Key × Reading → Bool
  keep e = (e.0.0 == known.number && passes e.0.1) && e.1.counted

  abbrev give : Key × Reading → Option ℕ
  give e = reading_number known.point e.1

  abbrev kept_number : Key × Reading → Option ℕ
  kept_number e = cond (keep e) (give e) None

  numbers_kept : (table : Readings) → filter_map kept_number table ≡ counted_numbers known (filter (λ row. passes row.0.1) table)
  numbers_kept [] = refl
  numbers_kept (e ∷ table) =
      step (e.0.0 == known.number) (passes e.0.1) e.1.counted (counted_number known.point e.1.words) (numbers_kept table)
      ∙ sym (chosen (passes e.0.1) (e ∷ filter (λ row. passes row.0.1) table) (filter (λ row. passes row.0.1) table))
    where
      chosen : (b : Bool) (xs ys : Readings) → counted_numbers known (cond b xs ys) ≡ cond b (counted_numbers known xs) (counted_numbers known ys)
      chosen true xs ys = refl
      chosen false xs ys = refl

      step : (own passed counted : Bool) (number : Option ℕ) {given kept : List ℕ} → given ≡ kept
          → cons_option (cond ((own && passed) && counted) (cond counted number None) None) given ≡ cond passed (cons_option (cond (own && counted) number None) kept) kept
      step true true true number same = ap (cons_option number) same
      step true true false number same = same
      step false true counted number same = same
      step true false counted number same = same
      step false false counted number same = same

-- ---- the answers

-- the number of the first row of an answer is the first that its entries give
first_shown : (point : Point) (shown xs : List Row) (es : Readings) (value : Option ℕ) → ShowValue point shown value → shown ≡ take 1 xs → map shown_reading xs ≡ map Some es
    → value ≡ first_of (filter_map (λ e. reading_number point e.1) es)
first_shown point shown [] [] None empty cut same = refl
first_shown point shown [] (e ∷ es) None empty cut same = absurd (cc)
first_shown point shown (x ∷ xs) es None empty cut same = absurd (cc)
first_shown point shown [] es (Some n) (row, entry, one, is, number) cut same = absurd (cc)
first_shown point shown (x ∷ xs) [] (Some n) (row, entry, one, is, number) cut same = absurd (cc)
first_shown point shown (x ∷ xs) (e ∷ es) (Some n) (row, entry, one, is, number) cut same =
    let first : row ≡ x = cc in
    let head : shown_reading x ≡ Some e = cc in
    let entries : entry ≡ e = cc in
    sym (ap (λ o. first_of (cons_option o (filter_map (λ (x : Key × Reading). reading_number point x.1) es))) (sym (ap (λ (x : Key × Reading). reading_number point x.1) entries) ∙ number))

module _ (point slot : ℕ) where
  abbrev pub given : Row
  given = Int (pos point) ∷ Int (pos slot) ∷ []

  abbrev sort : Key × Reading → Row
  sort e = Int (pos e.0.1) ∷ []

  abbrev blank : Key × Reading
  blank = ((0, 0), record { words = []; counted = false })

  module _ (side : CompareOp) (order : Sort) (passes : ℕ → Bool) (tells : (s : ℕ) → test side (nat_cmp s slot) ≡ passes s) where
    abbrev stays : Key × Reading → Bool
    stays e = (e.0.0 == point && passes e.0.1) && e.1.counted

    agree : (r : Row) (e : Key × Reading) → stored_reading r ≡ Some e
        → (list_all (holds (given ∷ r ∷ [])) (side_query side order).filter ≡ stays e) × (shown_reading (output (side_query side order) (given ∷ r ∷ [])).1 ≡ Some e) × ((output (side_query side order) (given ∷ r ∷ [])).0 ≡ sort e)
    agree r e h =
        let it = key_columns r e.0 e.1 h in
        let one : is_true (binary (Compare Eq Binary) (column r 1) (Int (pos point))) ≡ (e.0.0 == point) =
        ap (λ (v : Value). is_true (binary (Compare Eq Binary) v (Int (pos point)))) it.0 ∙ compares Eq e.0.0 point ∙ equals e.0.0 point in
        let two : is_true (binary (Compare side Binary) (column r 2) (Int (pos slot))) ≡ passes e.0.1 =
        ap (λ (v : Value). is_true (binary (Compare side Binary) v (Int (pos slot)))) it.1 ∙ compares side e.0.1 slot ∙ tells e.0.1 in
        let three : is_true (binary (Compare Eq Binary) (column r 4) (Int (pos 1))) ≡ e.1.counted = flag_set (column r 4) e.1.counted (counted_column r e h) in
        let tests : _ ≡ _ = λ i. one i && (two i && (three i && true)) in
        (tests ∙ regroup (e.0.0 == point) (passes e.0.1) e.1.counted, h, ap (λ v. v ∷ []) it.1)

    own : (e : Key × Reading) → stays e ≡ true → e.0.0 ≡ point
    own e h = exact_unsigned_eq e.0.0 point (all_true _ _ _ h)

    module _ (R : Key → Key → Ordering) (total : IsTotalOrder R) (exact : (x y : Key) → R x y ≡ Equal → x ≡ y)
        (alike : (a b : Key × Reading) → stays a ≡ true → stays b ≡ true → is_lt (sort_cmp 0 (order ∷ []) (sort a) (sort b)) ≡ is_lt (R a.0 b.0))
        (text : List ℕ) (means : Means text (side_query side order)) where
      shows_side : (old new : State) (kept : Tables) (held : IsHeld old kept) (table : Readings) → T (rows.is_sorted R table) → IsPermutation kept.readings table
          → (shown : List Row) → Shown text given old new shown → (xs : List Row) × (shown ≡ take 1 xs) × (map shown_reading xs ≡ map Some (filter stays table))
      shows_side old new kept held table sorted same shown h =
          let query = side_query side order in
          let read = held.stands.readings in
          let a = (reads_as text given old new office_schema held.schema (Select (record { lets = []; body = query }) names) means.0 means.2 means.1 shown h).answer Null in
          let staged = picked stored_reading shown_reading stays sort blank (λ r. list_all (holds (given ∷ r ∷ [])) query.filter) (λ r. given ∷ r ∷ []) (output query) agree (old.now.trees reading_tree) read.entries read.stored in
          let is : a.kept ≡ _ = a.distinct ∙ ap (map (output query)) a.grouped in
          let permuted = IsPermutation-trans read.entries kept.readings table read.same same in
          let done = answers stored_reading shown_reading stays sort blank R total exact query alike read.entries table _ a.ordered sorted permuted staged (subst (λ k. IsPermutation k a.ordered) is a.same) a.sorted in
          (map (λ (o : Output). o.1) a.ordered, a.shown, done)

  same_point : (a b : ℕ) (s t : ℕ) → a ≡ point → b ≡ point → nat_cmp s t ≡ key_cmp (a, s) (b, t)
  same_point a b s t at_a at_b = sym (ap (λ o. ordering_then o (nat_cmp s t)) (ap₂ nat_cmp at_a at_b ∙ tied_itself nat_cmp_total point))

  shows_before : (old new : State) (kept : Tables) (held : IsHeld old kept) (shown : List Row) → Shown value_before_text given old new shown
      → (xs : List Row) × (shown ≡ take 1 xs) × (map shown_reading xs ≡ map Some (filter (stays Lt falling (λ s. nat_lt s slot) (λ s. below s slot)) (backward kept.readings)))
  shows_before old new kept held =
      shows_side Lt falling (λ s. nat_lt s slot) (λ s. below s slot) (down key_cmp) (down_total key_cmp keys_total keys_exact) (down_exact key_cmp keys_total keys_exact)
      (λ a b ka kb. sorts_down a.0.1 b.0.1 ∙ ap is_lt (same_point b.0.0 a.0.0 b.0.1 a.0.1 (own Lt falling (λ s. nat_lt s slot) (λ s. below s slot) b kb) (own Lt falling (λ s. nat_lt s slot) (λ s. below s slot) a ka)))
      value_before_text before_is old new kept held (backward kept.readings) (sorted_backward key_cmp keys_total kept.readings held.stands.readings.sorted) (backward_same kept.readings)

  shows_after : (old new : State) (kept : Tables) (held : IsHeld old kept) (shown : List Row) → Shown value_after_text given old new shown
      → (xs : List Row) × (shown ≡ take 1 xs) × (map shown_reading xs ≡ map Some (filter (stays Gt rising (λ s. nat_lt slot s) (λ s. above s slot)) kept.readings))
  shows_after old new kept held =
      shows_side Gt rising (λ s. nat_lt slot s) (λ s. above s slot) key_cmp keys_total keys_exact
      (λ a b ka kb. sorts a.0.1 b.0.1 ∙ ap is_lt (same_point a.0.0 b.0.0 a.0.1 b.0.1 (own Gt rising (λ s. nat_lt slot s) (λ s. above s slot) a ka) (own Gt rising (λ s. nat_lt slot s) (λ s. above s slot) b kb)))
      value_after_text after_is old new kept held kept.readings held.stands.readings.sorted (IsPermutation-refl kept.readings)

module _ (known : PointRow) (slot : ℕ) (old new : State) (kept : Tables) (held : IsHeld old kept) where
  -- the value that an answer shows is the one before the slot
  pub before_shown : (shown : List Row) → Shown value_before_text (given known.number slot) old new shown → (value : Option ℕ) → ShowValue known.point shown value → value ≡ value_before known slot kept.readings
  before_shown shown h value is =
      let passes = λ (s : ℕ). nat_lt s slot in
      let it = shows_before known.number slot old new kept held shown h in
      first_shown known.point shown it.0 (filter (keep known passes) (backward kept.readings)) value is it.1 it.2
      ∙ ap first_of (kept_give (keep known passes) (give known passes) (backward kept.readings))
      ∙ first_is_last (kept_number known passes) kept.readings
      ∙ ap last_of (numbers_kept known passes kept.readings)

  -- or after it
  pub after_shown : (shown : List Row) → Shown value_after_text (given known.number slot) old new shown → (value : Option ℕ) → ShowValue known.point shown value → value ≡ value_after known slot kept.readings
  after_shown shown h value is =
      let passes = λ (s : ℕ). nat_lt slot s in
      let it = shows_after known.number slot old new kept held shown h in
      first_shown known.point shown it.0 (filter (keep known passes) kept.readings) value is it.1 it.2
      ∙ ap first_of (kept_give (keep known passes) (give known passes) kept.readings)
      ∙ ap first_of (numbers_kept known passes kept.readings)

pub each_value : {E : Type 0} (told : Result (Option ℕ) E) {Shows Is : Option ℕ → Type 0} → ((value : Option ℕ) → Shows value → Is value) → IfOk told Shows → IfOk told Is
each_value (Ok value) f h = f value h
each_value (Err e) f h = tt
