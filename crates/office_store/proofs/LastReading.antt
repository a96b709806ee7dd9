-- What the query of a point's last reading shows.
use Rattle.std.proofs.Common.{◌≡◌, ℕ, pos, List, [], ◌∷◌, map, take, false, ◌==◌, None, Some, Err, Ok, Result, IfOk, refl, ap, subst, ◌∙◌, filter}
use Rattle.std.specs.List.{list_all}
use Rattle.std.specs.List.Sorted.{IsPermutation}
use Rattle.std.proofs.lemmas.List.Sorted.{IsPermutation-trans}
use Rattle.sqlite_tied.specs.Compute.{everything}
use Rattle.sqlite_value.specs.declared.value.Value.{Value}
use Rattle.sqlite_value.specs.declared.value.Value.TheVariants.{Null, Int}
use Rattle.sqlite_value.specs.declared.keys.Collation.TheVariants.{Binary}
use Rattle.sqlite_value.specs.Order.{Row, column}
use Rattle.sqlite_sql.specs.declared.ops.BinaryOp.TheVariants.{Compare}
use Rattle.sqlite_sql.specs.declared.ops.CompareOp.TheVariants.{Eq}
use Rattle.sqlite_sql.specs.Term.{lit, col, op2, holds}
use Rattle.sqlite_sql.specs.Ops.{binary, is_true}
use Rattle.sqlite_sql.specs.Query.{Output, Query, inner, end, output}
use Rattle.sqlite_schema.specs.declared.command.Command.TheVariants.{Select}
use Rattle.sqlite.specs.Listing.{understood, reads_listing}
use Rattle.sqlite.specs.State.{State, Shown}
use Rattle.sqlite.proofs.Callers.{IsPlain, command_of, reads_as}
use Rattle.poll_book.specs.declared.rows.Reading.{Reading}
use Rattle.poll_book.specs.Tables.{Key, Tables, key_cmp}
use Rattle.poll_book.specs.Histories.{end_of}
use Rattle.office_store.specs.Schema.{office_schema, reading_tree}
use Rattle.office_store.specs.Texts.{last_reading_text}
use Rattle.office_store.specs.Rows.{stored_reading, shown_reading, flag_of, number_of, words_of}
use Rattle.office_store.specs.Kept.{IsHeld}
use Rattle.office_store.specs.Ends.{IsEndOf, ShowEnd}
use Rattle.office_store.proofs.Backward.{backward, backward_same, down, down_exact, down_total, sorted_backward}
use Rattle.office_store.proofs.ByNumber.{alone_and}
use Rattle.office_store.proofs.Comparing.{and_then_some, compares, equals, falling, map_some}
use Rattle.office_store.proofs.EndOf.{end_is}
use Rattle.office_store.proofs.LastRow as last
use Rattle.office_store.proofs.Showing.{answers, picked}
use Rattle.office_store.proofs.Slots.{key_columns, keys_exact, keys_total, names}

-- readings of the point, the last first
abbrev last_query : Query
last_query = record {
  from = inner 4 end;
  filter = op2 (Compare Eq Binary) (col 1 1) (col 0 0) ∷ [];
  group = None;
  project = col 1 1 ∷ col 1 2 ∷ col 1 3 ∷ col 1 4 ∷ [];
  distinct = false;
  collations = [];
  order = (col 1 2, falling) ∷ [];
  limit = lit (Int (pos 1));
  offset = lit (Int (pos 0));
}

last_is : (command_of (understood office_schema last_reading_text) ≡ Select (record { lets = []; body = last_query }) names) × (reads_listing office_schema last_reading_text ≡ false) × IsPlain (understood office_schema last_reading_text)
unfolding understood everything
last_is = (refl, refl, (refl, refl))

-- the slot of a reading that is shown stands in its column
slot_shown : (r : Row) (e : Key × Reading) → shown_reading r ≡ Some e → number_of (column r 1) ≡ Some e.0.1
slot_shown r e h =
    let p = and_then_some _ (number_of (column r 0)) _ h in
    let s = and_then_some _ (number_of (column r 1)) _ p.2 in
    let w = and_then_some _ (words_of (column r 2)) _ s.2 in
    let f = map_some _ (flag_of (column r 3)) _ w.2 in
    s.1 ∙ ap (λ (x : Key × Reading). Some x.0.1) f.2

module _ (point : ℕ) where
  abbrev pub given : Row
  given = Int (pos point) ∷ []

  abbrev sort : Key × Reading → Row
  sort e = Int (pos e.0.1) ∷ []

  abbrev blank : Key × Reading
  blank = ((0, 0), record { words = []; counted = false })

  agree : (r : Row) (e : Key × Reading) → stored_reading r ≡ Some e
      → (list_all (holds (given ∷ r ∷ [])) last_query.filter ≡ (e.0.0 == point)) × (shown_reading (output last_query (given ∷ r ∷ [])).1 ≡ Some e) × ((output last_query (given ∷ r ∷ [])).0 ≡ sort e)
  agree r e h =
      let it = key_columns r e.0 e.1 h in
      let test = λ (v : Value). is_true (binary (Compare Eq Binary) v (Int (pos point))) in
      (alone_and _ ∙ ap test it.0 ∙ compares Eq e.0.0 point ∙ equals e.0.0 point, h, ap (λ v. v ∷ []) it.1)

  shows_last : (old new : State) (kept : Tables) (held : IsHeld old kept) (shown : List Row) → Shown last_reading_text given old new shown
      → (xs : List Row) × (shown ≡ take 1 xs) × (map shown_reading xs ≡ map Some (filter (last.own point) (backward kept.readings)))
  shows_last old new kept held shown h =
      let read = held.stands.readings in
      let table = backward kept.readings in
      let a = (reads_as last_reading_text given old new office_schema held.schema (Select (record { lets = []; body = last_query }) names) last_is.0 last_is.2 last_is.1 shown h).answer Null in
      let staged = picked stored_reading shown_reading (last.own point) sort blank (λ r. list_all (holds (given ∷ r ∷ [])) last_query.filter) (λ r. given ∷ r ∷ []) (output last_query) agree (old.now.trees reading_tree) read.entries read.stored in
      let is : a.kept ≡ _ = a.distinct ∙ ap (map (output last_query)) a.grouped in
      let permuted = IsPermutation-trans read.entries kept.readings table read.same (backward_same kept.readings) in
      let done = answers stored_reading shown_reading (last.own point) sort blank (down key_cmp) (down_total key_cmp keys_total keys_exact) (down_exact key_cmp keys_total keys_exact) last_query (λ a b ka kb. last.alike point a.0 b.0 ka kb) read.entries table _ a.ordered
      (sorted_backward key_cmp keys_total kept.readings held.stands.readings.sorted) permuted staged (subst (λ k. IsPermutation k a.ordered) is a.same) a.sorted in
      (map (λ (o : Output). o.1) a.ordered, a.shown, done)

  -- the slot behind the row that an answer shows is the end of the point
  pub end_shown : (old new : State) (kept : Tables) (held : IsHeld old kept) (shown : List Row) → Shown last_reading_text given old new shown → {E : Type 0} (told : Result ℕ E) → IfOk told (ShowEnd shown) → IfOk told (λ stop. IsEndOf point stop kept.readings)
  end_shown old new kept held shown h =
      let it = shows_last old new kept held shown h in
      last.end_shown shown_reading slot_shown point kept.readings held.stands.readings.sorted shown it.0 it.1 it.2

  -- and stands just behind a reading, if there is one
  last_shown : (old new : State) (kept : Tables) (held : IsHeld old kept) (shown : List Row) → Shown last_reading_text given old new shown → {E : Type 0} (told : Result ℕ E) → IfOk told (ShowEnd shown) → IfOk told (λ stop. last.IsJustBehind point stop kept.readings)
  last_shown old new kept held shown h =
      let it = shows_last old new kept held shown h in
      last.last_shown shown_reading slot_shown point kept.readings held.stands.readings.sorted shown it.0 it.1 it.2

  -- so it is the slot behind the last reading
  pub exact_shown : (old new : State) (kept : Tables) (held : IsHeld old kept) (shown : List Row) → Shown last_reading_text given old new shown → {E : Type 0} (told : Result ℕ E) → IfOk told (ShowEnd shown) → IfOk told (λ stop. stop ≡ end_of point kept.readings)
  exact_shown old new kept held shown h {E = E} (Ok stop) is =
      end_is point stop kept.readings held.stands.readings.sorted (end_shown old new kept held shown h {E = E} (Ok stop) is) (last_shown old new kept held shown h {E = E} (Ok stop) is)
  exact_shown old new kept held shown h (Err e) is = tt
