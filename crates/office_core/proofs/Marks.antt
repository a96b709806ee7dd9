-- Readings as they are kept, marked by whether their slots are voided.
use Rattle.std.proofs.Common.{◌≡◌, ℕ, Bool, true, false, cond, T, List, [], ◌∷◌, length, Option, Some, None, refl, sym, ap, ◌∙◌, subst}
use Rattle.std.specs.Prelude.{◌&&◌, ◌||◌, is_none, is_some, not, option_map}
use Rattle.std.specs.Ordering.{eq_by_cmp, is_eq, is_lt}
use Rattle.std.specs.Cmp.{tied_itself}
use Rattle.std.specs.FinMap.Entries as rows
use Rattle.std.specs.declared.cmp.Ordering.{Ordering}
use Rattle.std.specs.declared.cmp.Ordering.TheVariants.{Less, Equal, Greater}
use Rattle.std.proofs.lemmas.Map.Views.{tells_apart}
use Rattle.poll_book.specs.declared.rows.PointRow.{PointRow}
use Rattle.poll_book.specs.declared.rows.Reading.{Reading}
use Rattle.poll_book.specs.Changes.{struck_row, uncounted}
use Rattle.poll_book.specs.Tables.{Key, key_cmp, Readings, Voids, is_void, marked, marked_one, new_rows, reading_at, with_row, with_rows, with_void}
use Rattle.poll_book.specs.Totals.{counted_number, reading_number}
use Rattle.poll_book.proofs.Tabled.{exact_keys, keys_total}
use Rattle.std.proofs.lemmas.List.{length-map}
use Rattle.read_planner.specs.declared.Read.{Read}
use Rattle.office_core.specs.Cover.{covers}
use Rattle.office_core.specs.Lacking.{some_lacks}
use Rattle.office_core.specs.Keeping.{Rises}

-- a reading under a key, marked
abbrev pub mark : Voids → Key → Reading → Reading
mark voids key reading = record { words = reading.words; counted = not (is_void voids key) && reading.counted }

-- ---- keys stay

below_marked : (voids : Voids) (key : Key) (es : Readings) → rows.below_all key_cmp key (marked voids es) ≡ rows.below_all key_cmp key es
below_marked voids key [] = refl
below_marked voids key (e ∷ es) = ap (λ b. is_lt (key_cmp key e.0) && b) (below_marked voids key es)

sorted_same : (voids : Voids) (es : Readings) → rows.is_sorted key_cmp (marked voids es) ≡ rows.is_sorted key_cmp es
sorted_same voids [] = refl
sorted_same voids (e ∷ es) = λ i. below_marked voids e.0 es i && sorted_same voids es i

pub marked_sorted : (voids : Voids) (es : Readings) → T (rows.is_sorted key_cmp es) → T (rows.is_sorted key_cmp (marked voids es))
marked_sorted voids es sorted = subst T (sym (sorted_same voids es)) sorted

pub marked_rise : (voids : Voids) (n : ℕ) (es : Readings) → Rises n es → Rises n (marked voids es)
marked_rise voids n [] rise = tt
marked_rise voids n (e ∷ es) rise = (rise.0, marked_rise voids e.0.0 es rise.1)

-- ---- what is found

pub at_marked : (voids : Voids) (table : Readings) (key : Key) → reading_at (marked voids table) key ≡ option_map (mark voids key) (reading_at table key)
at_marked voids [] key = refl
at_marked voids (e ∷ es) key = by (eq_by_cmp key_cmp key e.0) refl (at_marked voids es key)
  where
    by : (b : Bool) → eq_by_cmp key_cmp key e.0 ≡ b → reading_at (marked voids es) key ≡ option_map (mark voids key) (reading_at es key)
        → cond b (Some (mark voids e.0 e.1)) (reading_at (marked voids es) key) ≡ option_map (mark voids key) (cond b (Some e.1) (reading_at es key))
    by true tied rest = ap (λ k. Some (mark voids k e.1)) (sym (tells_apart exact_keys key e.0 tied))
    by false tied rest = rest

none_mapped : (f : Reading → Reading) (o : Option Reading) → is_none (option_map f o) ≡ is_none o
none_mapped f None = refl
none_mapped f (Some r) = refl

pub none_marked : (voids : Voids) (table : Readings) (key : Key) → is_none (reading_at (marked voids table) key) ≡ is_none (reading_at table key)
none_marked voids table key = ap is_none (at_marked voids table key) ∙ none_mapped (mark voids key) (reading_at table key)

-- ---- rows that are new

-- the same are new to the one and to the other
pub new_to_marked : (voids : Voids) (table given : Readings) → new_rows (marked voids table) given ≡ new_rows table given
new_to_marked voids table [] = refl
new_to_marked voids table (e ∷ es) = λ i. cond (none_marked voids table e.0 i) (e ∷ new_to_marked voids table es i) (new_to_marked voids table es i)

pub new_marked : (voids : Voids) (table given : Readings) → new_rows table (marked voids given) ≡ marked voids (new_rows table given)
new_marked voids table [] = refl
new_marked voids table (e ∷ es) = by (is_none (reading_at table e.0)) (new_marked voids table es)
  where
    by : (b : Bool) → new_rows table (marked voids es) ≡ marked voids (new_rows table es)
        → cond b (marked_one voids e ∷ new_rows table (marked voids es)) (new_rows table (marked voids es)) ≡ marked voids (cond b (e ∷ new_rows table es) (new_rows table es))
    by true rest = ap (λ l. marked_one voids e ∷ l) rest
    by false rest = rest

-- ---- rows that are put in

put_marked : (voids : Voids) (key : Key) (reading : Reading) (table : Readings) → marked voids (with_row key reading table) ≡ with_row key (mark voids key reading) (marked voids table)
put_marked voids key reading [] = refl
put_marked voids key reading (e ∷ es) = by (key_cmp key e.0) refl (put_marked voids key reading es)
  where
    by : (o : Ordering) → key_cmp key e.0 ≡ o → marked voids (with_row key reading es) ≡ with_row key (mark voids key reading) (marked voids es)
        → marked voids (rows.by_order o ((key, reading) ∷ e ∷ es) ((e.0, reading) ∷ es) (e ∷ with_row key reading es))
        ≡ rows.by_order o ((key, mark voids key reading) ∷ marked_one voids e ∷ marked voids es) ((e.0, mark voids key reading) ∷ marked voids es)
        (marked_one voids e ∷ with_row key (mark voids key reading) (marked voids es))
    by Less is rest = refl
    by Equal is rest = ap (λ k. (let row : Key × Reading = (e.0, mark voids k reading) in row) ∷ marked voids es) (sym (exact_keys key e.0 is))
    by Greater is rest = ap (λ l. marked_one voids e ∷ l) rest

pub rows_marked : (voids : Voids) (xs table : Readings) → marked voids (with_rows xs table) ≡ with_rows (marked voids xs) (marked voids table)
rows_marked voids [] table = refl
rows_marked voids (x ∷ xs) table = put_marked voids x.0 x.1 (with_rows xs table) ∙ ap (with_row x.0 (mark voids x.0 x.1)) (rows_marked voids xs table)

-- ---- a pair more is voided

pub void_more : (voids : Voids) (key q : Key) → is_void (with_void key voids) q ≡ (eq_by_cmp key_cmp q key || is_void voids q)
void_more voids key q = ap is_some (rows.find-put key_cmp keys_total q key tt voids) ∙ by (eq_by_cmp key_cmp q key)
  where
    by : (b : Bool) → is_some (cond b (Some tt) (rows.find key_cmp q voids)) ≡ (b || is_void voids q)
    by true = refl
    by false = refl

tied_key : (key : Key) → eq_by_cmp key_cmp key key ≡ true
tied_key key = ap is_eq (tied_itself keys_total key)

-- one that is there already changes nothing
pub voided_again : (voids : Voids) (key : Key) → T (rows.is_sorted key_cmp voids) → is_void voids key ≡ true → with_void key voids ≡ voids
voided_again voids key sorted there =
    rows.same_entries key_cmp keys_total exact_keys (with_void key voids) voids (rows.is_sorted-put key_cmp keys_total key tt voids sorted) sorted
    (λ q. rows.find-put key_cmp keys_total q key tt voids ∙ by q (eq_by_cmp key_cmp q key) refl)
  where
    found : (o : Option (Unit {0})) → is_some o ≡ true → Some tt ≡ o
    found None e = absurd (cc)
    found (Some x) e = refl

    by : (q : Key) (b : Bool) → eq_by_cmp key_cmp q key ≡ b → cond b (Some tt) (rows.find key_cmp q voids) ≡ rows.find key_cmp q voids
    by q true tied = found (rows.find key_cmp q voids) (ap (is_void voids) (tells_apart exact_keys q key tied) ∙ there)
    by q false tied = refl

-- a reading that counts doesn't count any more, and all others are as they were
pub struck_marked : (voids : Voids) (known : PointRow) (slot : ℕ) (table : Readings) → T (rows.is_sorted key_cmp table) → is_void voids (known.number, slot) ≡ false
    → ((r : Reading) → reading_at (marked voids table) (known.number, slot) ≡ Some r → r.counted ≡ true → is_some (reading_number known.point r) ≡ true)
    → marked (with_void (known.number, slot) voids) table ≡ with_rows (struck_row known (known.number, slot) (reading_at (marked voids table) (known.number, slot))) (marked voids table)
struck_marked voids known slot table sorted free counts =
    rows.same_entries key_cmp keys_total exact_keys (marked after table) struck (marked_sorted after table sorted) struck_sorted
    (λ q. at_marked after table q ∙ found q ∙ sym (at_struck q))
  where
    key : Key
    key = (known.number, slot)

    after : Voids
    after = with_void key voids

    there : Option Reading
    there = reading_at (marked voids table) key

    struck : Readings
    struck = with_rows (struck_row known key there) (marked voids table)

    -- what strikes may put in
    put_in : Option Reading → Option Reading
    put_in None = None
    put_in (Some r) = cond (is_some (reading_number known.point r)) (Some (uncounted r.words)) None

    or_was : Option Reading → Option Reading → Option Reading
    or_was None was = was
    or_was (Some r) was = Some r

    struck_sorted : T (rows.is_sorted key_cmp struck)
    struck_sorted = by there
      where
        old : T (rows.is_sorted key_cmp (marked voids table))
        old = marked_sorted voids table sorted

        one : (r : Reading) (b : Bool) → T (rows.is_sorted key_cmp (with_rows (cond b ((key, uncounted r.words) ∷ []) []) (marked voids table)))
        one r true = rows.is_sorted-put key_cmp keys_total key (uncounted r.words) (marked voids table) old
        one r false = old

        by : (o : Option Reading) → T (rows.is_sorted key_cmp (with_rows (struck_row known key o) (marked voids table)))
        by None = old
        by (Some r) = one r (is_some (reading_number known.point r))

    at_struck : (q : Key) → reading_at struck q ≡ cond (eq_by_cmp key_cmp q key) (or_was (put_in there) (reading_at (marked voids table) q)) (reading_at (marked voids table) q)
    at_struck q = by there
      where
        was : Option Reading
        was = reading_at (marked voids table) q

        same : (b : Bool) → was ≡ cond b was was
        same true = refl
        same false = refl

        one : (r : Reading) (b : Bool) → reading_at (with_rows (cond b ((key, uncounted r.words) ∷ []) []) (marked voids table)) q
            ≡ cond (eq_by_cmp key_cmp q key) (or_was (cond b (Some (uncounted r.words)) None) was) was
        one r true = rows.find-put key_cmp keys_total q key (uncounted r.words) (marked voids table)
        one r false = same (eq_by_cmp key_cmp q key)

        by : (o : Option Reading) → reading_at (with_rows (struck_row known key o) (marked voids table)) q ≡ cond (eq_by_cmp key_cmp q key) (or_was (put_in o) was) was
        by None = same (eq_by_cmp key_cmp q key)
        by (Some r) = one r (is_some (reading_number known.point r))

    -- the reading itself
    own : (o : Option Reading) → reading_at table key ≡ o → option_map (mark after key) o ≡ or_was (put_in (option_map (mark voids key) o)) (option_map (mark voids key) o)
    own None is = refl
    own (Some r) is = by r.counted refl
      where
        void : is_void after key ≡ true
        void = void_more voids key key ∙ ap (λ b. b || is_void voids key) (tied_key key)

        now_is : mark after key r ≡ uncounted r.words
        now_is = ap (λ b. (let x : Reading = record { words = r.words; counted = not b && r.counted } in x)) void

        was_is : mark voids key r ≡ r
        was_is = ap (λ b. (let x : Reading = record { words = r.words; counted = not b && r.counted } in x)) free

        by : (b : Bool) → r.counted ≡ b → Some (mark after key r) ≡ or_was (put_in (Some (mark voids key r))) (Some (mark voids key r))
        by true e =
            ap Some now_is ∙ sym (ap (λ (x : Reading). or_was (put_in (Some x)) (Some x)) was_is ∙ ap (λ c. or_was (cond c (Some (uncounted r.words)) None) (Some r)) (counts r (at_marked voids table key ∙ ap (option_map (mark voids key)) is ∙ ap Some was_is) e))
        by false e =
            let none : is_some (reading_number known.point r) ≡ false = ap (λ b. is_some (cond b (counted_number known.point r.words) None)) e in
            ap Some now_is
            ∙ ap (λ b. Some (let x : Reading = record { words = r.words; counted = b } in x)) (sym e)
            ∙ sym (ap (λ (x : Reading). or_was (put_in (Some x)) (Some x)) was_is ∙ ap (λ c. or_was (cond c (Some (uncounted r.words)) None) (Some r)) none)

    found : (q : Key) → option_map (mark after q) (reading_at table q) ≡ cond (eq_by_cmp key_cmp q key) (or_was (put_in there) (reading_at (marked voids table) q)) (reading_at (marked voids table) q)
    found q = by (eq_by_cmp key_cmp q key) refl
      where
        by : (b : Bool) → eq_by_cmp key_cmp q key ≡ b
            → option_map (mark after q) (reading_at table q) ≡ cond b (or_was (put_in there) (reading_at (marked voids table) q)) (reading_at (marked voids table) q)
        by true tied =
            let same : q ≡ key = tells_apart exact_keys q key tied in
            subst (λ k. option_map (mark after k) (reading_at table k) ≡ or_was (put_in there) (reading_at (marked voids table) k)) (sym same)
            (own (reading_at table key) refl ∙ (λ i. or_was (put_in (sym (at_marked voids table key) i)) (sym (at_marked voids table key) i)))
        by false tied =
            ap (λ b. option_map (λ (r : Reading). (let x : Reading = record { words = r.words; counted = not b && r.counted } in x)) (reading_at table q))
            (void_more voids key q ∙ ap (λ b. b || is_void voids q) tied)
            ∙ sym (at_marked voids table q)

-- ---- what doesn't depend on marks

-- how many rows are new
pub count_marked : (voids : Voids) (table given : Readings) → length (new_rows table (marked voids given)) ≡ length (new_rows table given)
count_marked voids table given = ap length (new_marked voids table given) ∙ length-map (new_rows table given) (marked_one voids)

-- which points lack a reading
pub lacks_marked : (voids : Voids) (known : List PointRow) (table : Readings) (device : List ℕ) (slot : ℕ) (read : Read)
    → some_lacks known (marked voids table) device slot read ≡ some_lacks known table device slot read
lacks_marked voids [] table device slot read = refl
lacks_marked voids (x ∷ xs) table device slot read =
    λ i. (covers device read x.point && none_marked voids table (x.number, slot) i) || lacks_marked voids xs table device slot read i
