-- What the map of readings has of a point's readings.
use Rattle.std.proofs.Common.{◌≡◌, ℕ, ◌<◌, ◌^◌, List, [], ◌∷◌, ◌++◌, map, take, length, Bool, true, false, Some, None, refl, sym, ap, ◌∙◌, arith, pos, nat_lt, if◌then◌else◌}
use Rattle.std.specs.Prelude.{All}
use Rattle.std.specs.List.{AllByRecursion}
use Rattle.std.proofs.lemmas.List.Elements.{All-from_recursion}
use Rattle.std.proofs.lemmas.List.Sorted.{All-permutation}
use Rattle.std.proofs.lemmas.Bool.Decides.{nat_tests}
use Rattle.sqlite_value.specs.Order.{Row, column}
use Rattle.poll_book.specs.declared.rows.Reading.{Reading}
use Rattle.poll_book.specs.declared.rows.ReadingRow.{ReadingRow}
use Rattle.poll_book.specs.Tables.{Key, Readings, Tables, is_between, readings_between, reading_at, key_cmp}
use Rattle.poll_book.specs.Changes.{as_row, as_rows}
use Rattle.office_store.specs.Rows.{stored_reading, number_below, number_of, words_of, flag_of}
use Rattle.office_store.specs.Schema.{reading_tree}
use Rattle.office_store.specs.Kept.{IsHeld}
use Rattle.std.proofs.lemmas.Bool.{ltb-true}
use Rattle.std.proofs.lemmas.List.{length-append}
use Rattle.std.specs.Ordering.{eq_by_cmp}
use Rattle.sqlite_value.specs.declared.value.Value.{Value}
use Rattle.sqlite_value.specs.declared.value.Value.TheVariants.{Int}
use Rattle.sqlite.specs.State.{State}
use Rattle.office_store.proofs.Comparing.{and_then_some, map_some}
use Rattle.office_store.proofs.Showing.{same_some}
use Rattle.office_store.proofs.Sorted.{finds_none, finds_first}

-- ---- the slots of readings that are stored

abbrev HasSlot : Key × Reading → Type 0
HasSlot e = e.0.1 < 2 ^ 32

pub below_limit : (limit : ℕ) (v : Value) (n : ℕ) → number_below limit v ≡ Some n → n < limit
below_limit limit (Int (pos m)) n h = go (nat_lt m limit) refl h
  where
    go : (b : Bool) → nat_lt m limit ≡ b → (if b then Some m else None) ≡ Some n → n < limit
    go true is h = let same : m ≡ n = same_some m n h in let low = ltb-true m limit is in omega (arith, same, low)
    go false is h = absurd (cc)
below_limit limit _ n h = absurd (cc)

has_slot : (r : Row) (e : Key × Reading) → stored_reading r ≡ Some e → HasSlot e
has_slot r e h =
    let p = and_then_some _ (number_of (column r 1)) _ h in
    let s = and_then_some _ (number_of (column r 2)) _ p.2 in
    let w = and_then_some _ (words_of (column r 3)) _ s.2 in
    let f = map_some _ (flag_of (column r 4)) _ w.2 in
    below_limit (2 ^ 32) (column r 2) e.0.1 (s.1 ∙ ap (λ (x : Key × Reading). Some x.0.1) f.2)

have_slots : (rows : List Row) (es : Readings) → map stored_reading rows ≡ map Some es → AllByRecursion HasSlot es
have_slots [] [] h = tt
have_slots [] (e ∷ es) h = absurd (cc)
have_slots (r ∷ rows) [] h = absurd (cc)
have_slots (r ∷ rows) (e ∷ es) h =
    let head : stored_reading r ≡ Some e = cc in
    let tail : map stored_reading rows ≡ map Some es = cc in
    (has_slot r e head, have_slots rows es tail)

pub low_slots : (s : State) (kept : Tables) → IsHeld s kept → All (λ row. row.0.1 < 2 ^ 32) kept.readings
low_slots s kept held =
    let read = held.stands.readings in
    All-permutation HasSlot read.entries kept.readings read.same (All-from_recursion HasSlot read.entries (have_slots (s.now.trees reading_tree) read.entries read.stored))

-- the first of the readings at a key is the one that is found
same_key : (p s : ℕ) (e : Key × Reading) → is_between p s s e.0 ≡ eq_by_cmp key_cmp (p, s) e.0
same_key p s e = grind (arith, nat_tests)

pub none_between : (p s : ℕ) (table : Readings) → [] ≡ readings_between p s s table → None ≡ reading_at table (p, s)
none_between p s table h = sym (finds_none key_cmp (p, s) (λ e. is_between p s s e.0) (same_key p s) table (sym h))

first_of : (rows rest : List ReadingRow) (row : ReadingRow) → take 1 rows ≡ rest ++ row ∷ [] → (more : List ReadingRow) × (rows ≡ row ∷ more)
first_of [] [] row h = absurd (cc)
first_of [] (a ∷ rest) row h = absurd (cc)
first_of (r ∷ rows) [] row h = let same : r ≡ row = cc in (rows, ap (λ x. x ∷ rows) same)
first_of (r ∷ rows) (a ∷ rest) row h = absurd (omega (arith, ap length h, length-append rest (row ∷ [])))

pub first_between : (p s : ℕ) (table : Readings) (rows rest : List ReadingRow) (row : ReadingRow) → as_rows rows ≡ readings_between p s s table → take 1 rows ≡ rest ++ row ∷ []
    → Some (record { words = row.words; counted = row.counted }) ≡ reading_at table (p, s)
first_between p s table rows rest row h first =
    let it = first_of rows rest row first in
    sym (finds_first key_cmp (p, s) (λ e. is_between p s s e.0) (same_key p s) table (as_rows it.0) (as_row row) (sym h ∙ ap as_rows it.1))

pub nothing_taken : (rows : List ReadingRow) → length (take 1 rows) ≡ 0 → rows ≡ []
nothing_taken [] h = refl
nothing_taken (r ∷ rows) h = absurd (omega arith)
