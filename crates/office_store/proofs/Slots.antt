-- What the query of a point's readings shows.
use Rattle.std.proofs.Common.{◌≡◌, ℕ, pos, negsuc, List, [], ◌∷◌, map, Bool, true, false, ◌&&◌, None, Some, Ok, Result, IfOk, refl, sym, ap, ap₂, subst, ◌∙◌, codes, Err, Vec, Global, ◌==◌, ◌^◌}
use Rattle.std.specs.Prelude.{nat_le}
use Rattle.std.specs.List.{list_all}
use Rattle.std.specs.Ordering.{is_lt, nat_cmp, ordering_then}
use Rattle.std.specs.declared.cmp.Ordering.TheVariants.{Equal}
use Rattle.std.specs.Cmp.{IsTotalOrder, nat_cmp_total, tied_itself}
use Rattle.std.proofs.lemmas.Cmp.{on_total, then_total}
use Rattle.std.proofs.lemmas.Map.Lookups.{exact_pairs, exact_unsigned}
use Rattle.std.proofs.lemmas.Map.Views.{exact_unsigned_eq}
use Rattle.std.specs.List.Sorted.{IsPermutation}
use Rattle.sqlite_tied.specs.Compute.{everything}
use Rattle.sqlite_value.specs.declared.value.Value.{Value}
use Rattle.sqlite_value.specs.declared.value.Value.TheVariants.{Null, Int}
use Rattle.sqlite_value.specs.declared.keys.Collation.TheVariants.{Binary}
use Rattle.sqlite_value.specs.Order.{Row, column}
use Rattle.sqlite_sql.specs.declared.ops.BinaryOp.TheVariants.{Compare}
use Rattle.sqlite_sql.specs.declared.ops.CompareOp.TheVariants.{Eq, Le, Ge}
use Rattle.sqlite_sql.specs.Term.{lit, col, op2, holds}
use Rattle.sqlite_sql.specs.Ops.{binary, is_true}
use Rattle.sqlite_sql.specs.Query.{Query, inner, end, output, key_cmp as sort_cmp}
use Rattle.sqlite_schema.specs.declared.command.Command.TheVariants.{Select}
use Rattle.sqlite.specs.Listing.{understood, reads_listing}
use Rattle.sqlite.specs.State.{State, Shown}
use Rattle.sqlite.proofs.Callers.{IsPlain, command_of, reads_as}
use Rattle.poll_book.specs.declared.rows.Reading.{Reading}
use Rattle.poll_book.specs.declared.rows.ReadingRow.{ReadingRow}
use Rattle.poll_book.specs.Changes.{as_rows}
use Rattle.poll_book.specs.Tables.{Key, key_cmp, Tables, is_between, readings_between}
use Rattle.office_store.specs.Schema.{office_schema, reading_tree}
use Rattle.office_store.specs.Texts.{readings_text}
use Rattle.office_store.specs.Rows.{stored_reading, shown_reading, number_of, words_of, flag_of}
use Rattle.office_store.specs.Kept.{IsHeld}
use Rattle.office_store.proofs.Comparing.{compares, equals, at_most, at_least, rising, sorts, number_is, and_then_some, map_some}
use Rattle.office_store.proofs.Showing.{picked, answers, same_list}

abbrev readings_query : Query
readings_query = record {
  from = inner 4 end;
  filter = op2 (Compare Eq Binary) (col 1 1) (col 0 0) ∷ op2 (Compare Ge Binary) (col 1 2) (col 0 1) ∷ op2 (Compare Le Binary) (col 1 2) (col 0 2) ∷ [];
  group = None;
  project = col 1 1 ∷ col 1 2 ∷ col 1 3 ∷ col 1 4 ∷ [];
  distinct = false;
  collations = [];
  order = (col 1 2, rising) ∷ [];
  limit = lit (Int (negsuc 0));
  offset = lit (Int (pos 0));
}

abbrev pub names : List (List ℕ)
names = codes "point" ∷ codes "slot" ∷ codes "words" ∷ codes "counted" ∷ []

readings_are : (command_of (understood office_schema readings_text) ≡ Select (record { lets = []; body = readings_query }) names) × (reads_listing office_schema readings_text ≡ false) × IsPlain (understood office_schema readings_text)
unfolding understood everything
readings_are = (refl, refl, (refl, refl))

pub keys_total : IsTotalOrder key_cmp
keys_total = then_total (on_total (λ (k : Key). k.0) nat_cmp_total) (on_total (λ (k : Key). k.1) nat_cmp_total)

pub keys_exact : (x y : Key) → key_cmp x y ≡ Equal → x ≡ y
keys_exact = exact_pairs nat_cmp nat_cmp exact_unsigned exact_unsigned

-- the key of a reading stands in its columns
pub key_columns : (r : Row) (k : Key) (v : Reading) → stored_reading r ≡ Some (k, v) → (column r 1 ≡ Int (pos k.0)) × (column r 2 ≡ Int (pos k.1))
key_columns r k v h =
    let p = and_then_some _ (number_of (column r 1)) _ h in
    let s = and_then_some _ (number_of (column r 2)) _ p.2 in
    let w = and_then_some _ (words_of (column r 3)) _ s.2 in
    let f = map_some _ (flag_of (column r 4)) _ w.2 in
    (number_is (2 ^ 32) (column r 1) k.0 (p.1 ∙ ap (λ (e : Key × Reading). Some e.0.0) f.2), number_is (2 ^ 32) (column r 2) k.1 (s.1 ∙ ap (λ (e : Key × Reading). Some e.0.1) f.2))

pub regroup : (a b c : Bool) → (a && (b && (c && true))) ≡ ((a && b) && c)
regroup true true true = refl
regroup true true false = refl
regroup true false c = refl
regroup false b c = refl

pub all_true : (a b c : Bool) → ((a && b) && c) ≡ true → a ≡ true
all_true true b c h = refl
all_true false b c h = h

module _ (point from to : ℕ) where
  abbrev pub given : Row
  given = Int (pos point) ∷ Int (pos from) ∷ Int (pos to) ∷ []

  abbrev keep : Key × Reading → Bool
  keep e = is_between point from to e.0

  abbrev sort : Key × Reading → Row
  sort e = Int (pos e.0.1) ∷ []

  abbrev blank : Key × Reading
  blank = ((0, 0), record { words = []; counted = false })

  agree : (r : Row) (e : Key × Reading) → stored_reading r ≡ Some e
      → (list_all (holds (given ∷ r ∷ [])) readings_query.filter ≡ keep e) × (shown_reading (output readings_query (given ∷ r ∷ [])).1 ≡ Some e) × ((output readings_query (given ∷ r ∷ [])).0 ≡ sort e)
  agree r e h =
      let it = key_columns r e.0 e.1 h in
      let tests = λ (a b : Value). is_true (binary (Compare Eq Binary) a (Int (pos point))) && (is_true (binary (Compare Ge Binary) b (Int (pos from))) && (is_true (binary (Compare Le Binary) b (Int (pos to))) && true)) in
      let one = compares Eq e.0.0 point ∙ equals e.0.0 point in
      let two = compares Ge e.0.1 from ∙ at_least e.0.1 from in
      let three = compares Le e.0.1 to ∙ at_most e.0.1 to in
      (ap₂ tests it.0 it.1 ∙ rw (one, two, three) (regroup (e.0.0 == point) (nat_le from e.0.1) (nat_le e.0.1 to)), h, ap (λ v. v ∷ []) it.1)

  alike : (a b : Key × Reading) → keep a ≡ true → keep b ≡ true → is_lt (sort_cmp 0 (rising ∷ []) (sort a) (sort b)) ≡ is_lt (key_cmp a.0 b.0)
  alike a b ka kb =
      let at_a = exact_unsigned_eq a.0.0 point (all_true _ _ _ ka) in
      let at_b = exact_unsigned_eq b.0.0 point (all_true _ _ _ kb) in
      let tied = ap₂ nat_cmp at_a at_b ∙ tied_itself nat_cmp_total point in
      sorts a.0.1 b.0.1 ∙ sym (ap (λ o. is_lt (ordering_then o (nat_cmp a.0.1 b.0.1))) tied)

  pub shows_between : (old new : State) (kept : Tables) (held : IsHeld old kept) (rows : List Row) → Shown readings_text given old new rows → map shown_reading rows ≡ map Some (readings_between point from to kept.readings)
  shows_between old new kept held rows shown =
      let read = held.stands.readings in
      let a = (reads_as readings_text given old new office_schema held.schema (Select (record { lets = []; body = readings_query }) names) readings_are.0 readings_are.2 readings_are.1 rows shown).answer Null in
      let staged = picked stored_reading shown_reading keep sort blank (λ r. list_all (holds (given ∷ r ∷ [])) readings_query.filter) (λ r. given ∷ r ∷ []) (output readings_query) agree (old.now.trees reading_tree) read.entries read.stored in
      let is : a.kept ≡ _ = a.distinct ∙ ap (map (output readings_query)) a.grouped in
      let done = answers stored_reading shown_reading keep sort blank key_cmp keys_total keys_exact readings_query alike read.entries kept.readings _ a.ordered read.sorted read.same staged (subst (λ k. IsPermutation k a.ordered) is a.same) a.sorted in
      ap (map shown_reading) a.shown ∙ done

  -- and so do the readings that are made of the rows
  pub all_between : {E : Type 0} (old new : State) (kept : Tables) (held : IsHeld old kept) (rows : List Row) → Shown readings_text given old new rows
      → (made : Result (Vec ReadingRow Global) E) → IfOk made (λ readings. map shown_reading rows ≡ map Some (as_rows readings.items)) → IfOk made (λ readings. as_rows readings.items ≡ readings_between point from to kept.readings)
  all_between old new kept held rows shown (Ok readings) is = same_list (as_rows readings.items) (readings_between point from to kept.readings) (sym is ∙ shows_between old new kept held rows shown)
  all_between old new kept held rows shown (Err e) is = tt
