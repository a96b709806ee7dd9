-- Where the insertion of a reading went well, its key was free: each row keeps the table's unique key.
use Rattle.std.proofs.Common.{◌≡◌, ℕ, pos, List, [], ◌∷◌, map, length, Bool, true, false, ◌&&◌, ◌||◌, Some, None, IsTrue, refl, sym, ap, ◌∙◌, arith}
use Rattle.std.specs.List.{AllByRecursion, filter, list_any}
use Rattle.std.specs.List.Sorted.{IsPermutation}
use Rattle.std.specs.Ordering.{int_cmp, is_eq, match_ordering}
use Rattle.std.specs.declared.cmp.Ordering.{Ordering}
use Rattle.std.specs.declared.cmp.Ordering.TheVariants.{Less, Equal, Greater}
use Rattle.std.proofs.lemmas.List.Sorted.{length_permutation}
use Rattle.sqlite_value.specs.declared.value.Value.{Value}
use Rattle.sqlite_value.specs.declared.value.Value.TheVariants.{Null, Int, Real, Text, Blob}
use Rattle.sqlite_value.specs.declared.keys.Collation.TheVariants.{Binary}
use Rattle.sqlite_value.specs.Keys.{first_key, plain}
use Rattle.sqlite_value.specs.Order.{Row, column, value_cmp}
use Rattle.sqlite_value.proofs.OrderLemmas.{value_cmp-Int}
use Rattle.sqlite_trees.specs.Tree.{put_row, rowid}
use Rattle.sqlite_trees.specs.View.{is_int}
use Rattle.sqlite_trees.proofs.ListLemmas.{IsPermutation-filter}
use Rattle.sqlite_sql.specs.declared.ops.BinaryOp.TheVariants.{Compare}
use Rattle.sqlite_sql.specs.declared.ops.CompareOp.TheVariants.{Eq, Ne}
use Rattle.sqlite_sql.specs.Ops.{binary, is_true, test}
use Rattle.sqlite_schema.specs.declared.schema.Constraint.TheVariants.{ForeignKey, Unique}
use Rattle.sqlite_schema.specs.Rules.{agree, differ}
use Rattle.sqlite_rules.specs.Edit.{is_taken}
use Rattle.poll_book.specs.declared.rows.Reading.{Reading}
use Rattle.poll_book.specs.Tables.{Key, Readings, key_cmp, reading_at}
use Rattle.office_store.specs.Rows.{stored_reading}
use Rattle.office_store.proofs.Comparing.{compares, equals, truth_of}
use Rattle.office_store.proofs.Presence.{keep, same}
use Rattle.office_store.proofs.Slots.{key_columns}
use Rattle.office_store.proofs.Sorted.{finds_none}

either_false : (a b : Bool) → (a || b) ≡ false → (a ≡ false) × (b ≡ false)
either_false true b h = absurd (cc)
either_false false b h = (refl, h)

both_false : (a b : Bool) → (a && b) ≡ false → b ≡ true → a ≡ false
both_false true b h is = absurd (cc)
both_false false b h is = refl

differs : (o : Ordering) → is_eq o ≡ false → test Ne o ≡ true
differs Less h = refl
differs Equal h = absurd (cc)
differs Greater h = refl

-- numbers that are compared as other ones differ
apart : (a b : Value) → IsTrue (is_int a) → IsTrue (is_int b) → is_eq (value_cmp a b) ≡ false → differ a b ≡ true
unfolding binary
apart (Int m) (Int n) a b other =
    let ints : is_eq (int_cmp m n) ≡ false = ap is_eq (sym (value_cmp-Int m n)) ∙ other in
    rw (value_cmp-Int m n) (truth_of (test Ne (int_cmp m n)) ∙ differs (int_cmp m n) ints)
apart Null b p q other = absurd (cc)
apart (Real x) b p q other = absurd (cc)
apart (Text t) b p q other = absurd (cc)
apart (Blob t) b p q other = absurd (cc)
apart (Int m) Null p q other = absurd (cc)
apart (Int m) (Real x) p q other = absurd (cc)
apart (Int m) (Text t) p q other = absurd (cc)
apart (Int m) (Blob t) p q other = absurd (cc)

pub not_foreign : Unique ≡ ForeignKey → ⊥
not_foreign e = absurd (cc)

-- what holds of each row holds of the one that was put in
pub of_new : (P : Row → Type 0) (new : Row) (all : List Row) → AllByRecursion P (put_row new all) → P new
of_new P new [] h = h.0
of_new P new (r ∷ all) h = by (value_cmp (rowid r) (rowid new)) (of_new P new all) h
  where
    by : (o : Ordering) → (AllByRecursion P (put_row new all) → P new) → AllByRecursion P (match_ordering o (r ∷ put_row new all) (new ∷ all) (new ∷ r ∷ all)) → P new
    by Less rest h = rest h.1
    by Equal rest h = h.0
    by Greater rest h = h.0

-- where no row passes a test once a row was put in at a free number, none passed before
pub none_before : (test : Row → Bool) (new : Row) (all : List Row) → is_taken all new ≡ false → list_any test (put_row new all) ≡ false → list_any test all ≡ false
none_before test new [] free h = refl
none_before test new (r ∷ all) free h = by (value_cmp (rowid r) (rowid new)) (none_before test new all) free h
  where
    by : (o : Ordering) → (is_taken all new ≡ false → list_any test (put_row new all) ≡ false → list_any test all ≡ false)
        → (is_eq o || is_taken all new) ≡ false → list_any test (match_ordering o (r ∷ put_row new all) (new ∷ all) (new ∷ r ∷ all)) ≡ false → (test r || list_any test all) ≡ false
    by Less rest free h =
        let both = either_false (test r) (list_any test (put_row new all)) h in
        let here = both.0 in
        rw here (rest free both.1)
    by Equal rest free h = absurd (cc)
    by Greater rest free h = (either_false (test new) (test r || list_any test all) h).1

-- what holds of each row held of each before one was put in at a free number
pub of_old : (P : Row → Type 0) (new : Row) (all : List Row) → is_taken all new ≡ false → AllByRecursion P (put_row new all) → AllByRecursion P all
of_old P new [] free h = tt
of_old P new (r ∷ all) free h = by (value_cmp (rowid r) (rowid new)) (of_old P new all) free h
  where
    by : (o : Ordering) → (is_taken all new ≡ false → AllByRecursion P (put_row new all) → AllByRecursion P all) → (is_eq o || is_taken all new) ≡ false
        → AllByRecursion P (match_ordering o (r ∷ put_row new all) (new ∷ all) (new ∷ r ∷ all)) → AllByRecursion P (r ∷ all)
    by Less rest free h = (h.0, rest free h.1)
    by Equal rest free h = absurd (cc)
    by Greater rest free h = h.1

pub none_left : {X : Type 0} (xs : List X) → length xs ≡ 0 → xs ≡ []
none_left [] h = refl
none_left (x ∷ xs) h = absurd (omega (arith, h))

module _ (point slot : ℕ) (new : Row) (first : column new 1 ≡ Int (pos point)) (second : column new 2 ≡ Int (pos slot)) (number : IsTrue (is_int (rowid new))) where
  -- another row has the key
  abbrev pub clash : Row → Bool
  clash other = agree plain (1 ∷ 2 ∷ []) other (1 ∷ 2 ∷ []) new && differ (rowid other) (rowid new)

  agrees : (r : Row) (e : Key × Reading) → stored_reading r ≡ Some e → agree plain (1 ∷ 2 ∷ []) r (1 ∷ 2 ∷ []) new ≡ keep point slot e
  unfolding first_key
  agrees r e h =
      let it = key_columns r e.0 e.1 h in
      let tests = λ (a b c d : Value). is_true (binary (Compare Eq Binary) a b) && (is_true (binary (Compare Eq Binary) c d) && true) in
      let one = compares Eq e.0.0 point ∙ equals e.0.0 point in
      let two = compares Eq e.0.1 slot ∙ equals e.0.1 slot in
      (λ i. tests (it.0 i) (first i) (it.1 i) (second i)) ∙ rw (one, two) refl

  none_kept : (all : List Row) (es : Readings) → map stored_reading all ≡ map Some es → AllByRecursion (λ r. IsTrue (is_int (rowid r))) all → is_taken all new ≡ false → list_any clash all ≡ false
      → filter (keep point slot) es ≡ []
  none_kept [] [] h ints free apart' = refl
  none_kept [] (e ∷ es) h ints free apart' = absurd (cc)
  none_kept (r ∷ all) [] h ints free apart' = absurd (cc)
  none_kept (r ∷ all) (e ∷ es) h ints free apart' =
      let head : stored_reading r ≡ Some e = cc in
      let tail : map stored_reading all ≡ map Some es = cc in
      let here = either_false (is_eq (value_cmp (rowid r) (rowid new))) (is_taken all new) free in
      let clear = either_false (clash r) (list_any clash all) apart' in
      let other = both_false (agree plain (1 ∷ 2 ∷ []) r (1 ∷ 2 ∷ []) new) (differ (rowid r) (rowid new)) clear.0 (apart (rowid r) (rowid new) ints.0 number here.0) in
      let not_this : keep point slot e ≡ false = sym (agrees r e head) ∙ other in
      rw not_this (none_kept all es tail ints.1 here.1 clear.1)

  -- so none of the readings had the key
  pub was_free : (all : List Row) (es kept : Readings) → map stored_reading all ≡ map Some es → IsPermutation es kept → AllByRecursion (λ r. IsTrue (is_int (rowid r))) all → is_taken all new ≡ false
      → list_any clash (put_row new all) ≡ false → reading_at kept (point, slot) ≡ None
  was_free all es kept stored permuted ints free clear =
      let none = none_kept all es stored ints free (none_before clash new all free clear) in
      let as_many = length_permutation (filter (keep point slot) es) (filter (keep point slot) kept) (IsPermutation-filter (keep point slot) es kept permuted) in
      finds_none key_cmp (point, slot) (keep point slot) (same point slot) kept (none_left (filter (keep point slot) kept) (as_many ∙ ap length none))
