-- The stored totals of counters, as readings and points are added.
use Rattle.std.proofs.Common.{◌≡◌, ◌≢◌, ◌⊎◌, inl, inr, ◌<◌, ◌≤◌, ◌+◌, ℕ, Bool, true, false, cond, eqb, ◌&&◌, T, List, [], ◌∷◌, ◌++◌, length, map, filter, Option, Some, None, refl, sym, ap, ◌∙◌, subst, arith}
use Rattle.std.specs.Prelude.{All, Contains, is_none, is_some, option_map}
use Rattle.std.specs.Option.{option_or}
use Rattle.std.specs.List.{cons_option}
use Rattle.std.specs.Ordering.{eq_by_cmp, nat_cmp, is_lt}
use Rattle.std.specs.Cmp.{nat_cmp_is, unsigned_tied}
use Rattle.std.specs.FinMap.Entries as rows
use Rattle.std.specs.declared.cmp.Ordering.TheVariants.{Less}
use Rattle.std.proofs.lemmas.Bool.{eqb-true, eqb-false, eq-eqb, ne_eqb}
use Rattle.std.proofs.lemmas.Cmp.{nat_cmp_total}
use Rattle.std.proofs.lemmas.List.Elements.{All-nil, All-cons, All-head, All-tail, All-filter}
use Rattle.std.proofs.lemmas.Map.Lookups.{exact_unsigned}
use Rattle.std.proofs.lemmas.Map.Views.{tells_apart}
use Rattle.std.proofs.lemmas.Option.{none-some, same_Some}
use Rattle.poll_book.specs.declared.rows.PointRow.{PointRow}
use Rattle.poll_book.specs.declared.rows.Reading.{Reading}
use Rattle.poll_book.specs.Tables.{AreByKey, Key, key_cmp, Readings, Sums, Voids, is_void, marked, marked_one, reading_at, new_rows, sum_at, with_row, with_rows, with_sums}
use Rattle.poll_book.specs.Totals.{counted_number, counted_numbers, is_counter, steps, total, totals_of}
use Rattle.poll_book.specs.Changes.{AreNumbered, AreThere, counters, keyed, keyed_one, new_sum, new_sums}
use Rattle.poll_book.proofs.Lacked.{its_own, mark_is, number_in as counted_in, of_counter}
use Rattle.poll_book.proofs.Repairs.{not_counted_is, of_another_is}
use Rattle.poll_book.proofs.Tabled.{exact_keys, keys_total}
use Rattle.office_core.specs.Keeping.{AreCovered, Rises}
use Rattle.office_core.proofs.Elements.{among, in_none, further, foremost}
use Rattle.office_core.proofs.OnePoint.{number_in, one_point}
use Rattle.office_core.proofs.Marks.{marked_rise}
use Rattle.office_core.proofs.Rows.{with_rows_sorted}

-- ---- readings of one point among others

abbrev IsOther : PointRow → Key × Reading → Type 0
IsOther known row = row.0.0 ≢ known.number

-- readings of other points leave a total
total_others : (known : PointRow) (xs table : Readings) → All (IsOther known) xs → total known (with_rows xs table) ≡ total known table
total_others known [] table others = refl
total_others known (x ∷ xs) table others =
    of_another_is known x.0 x.1 (with_rows xs table) (All-head (IsOther known) x xs others) ∙ total_others known xs table (All-tail (IsOther known) x xs others)

-- two rows under different keys go in in either order
swapped : (a b : Key) (x y : Reading) (table : Readings) → AreByKey table → a ≢ b → with_row a x (with_row b y table) ≡ with_row b y (with_row a x table)
swapped a b x y table sorted apart =
    rows.same_entries key_cmp keys_total exact_keys (with_row a x (with_row b y table)) (with_row b y (with_row a x table))
    (rows.is_sorted-put key_cmp keys_total a x (with_row b y table) (rows.is_sorted-put key_cmp keys_total b y table sorted))
    (rows.is_sorted-put key_cmp keys_total b y (with_row a x table) (rows.is_sorted-put key_cmp keys_total a x table sorted))
    (λ q.
    rows.find-put key_cmp keys_total q a x (with_row b y table)
    ∙ ap (cond (eq_by_cmp key_cmp q a) (Some x)) (rows.find-put key_cmp keys_total q b y table)
    ∙ by q (eq_by_cmp key_cmp q a) (eq_by_cmp key_cmp q b) refl refl
    ∙ sym (ap (cond (eq_by_cmp key_cmp q b) (Some y)) (rows.find-put key_cmp keys_total q a x table))
    ∙ sym (rows.find-put key_cmp keys_total q b y (with_row a x table)))
  where
    by : (q : Key) (m n : Bool) → eq_by_cmp key_cmp q a ≡ m → eq_by_cmp key_cmp q b ≡ n
        → cond m (Some x) (cond n (Some y) (reading_at table q)) ≡ cond n (Some y) (cond m (Some x) (reading_at table q))
    by q true true e f = absurd (apart (sym (tells_apart exact_keys q a e) ∙ tells_apart exact_keys q b f))
    by q true false e f = refl
    by q false n e f = refl

-- what a reading of a point does to its total, it does beside readings of others
total_beside : (known : PointRow) (slot : ℕ) (reading : Reading) (xs table : Readings) → AreByKey table → All (IsOther known) xs
    → total known (with_row (known.number, slot) reading (with_rows xs table)) ≡ total known (with_row (known.number, slot) reading table)
total_beside known slot reading [] table sorted others = refl
total_beside known slot reading (x ∷ xs) table sorted others =
    let other = All-head (IsOther known) x xs others in
    ap (total known) (swapped (known.number, slot) x.0 reading x.1 (with_rows xs table) (with_rows_sorted xs table sorted) (λ e. other (sym (ap (λ (k : Key). k.0) e))))
    ∙ of_another_is known x.0 x.1 (with_row (known.number, slot) reading (with_rows xs table)) other
    ∙ total_beside known slot reading xs table sorted (All-tail (IsOther known) x xs others)

-- ---- the totals of a reply

-- a total that changes is that of its point
sum_key : (voids : Voids) (table : Readings) (slot : ℕ) (c : PointRow × List ℕ) (s : ℕ × ℕ) → new_sum voids table slot c ≡ Some s → s.0 ≡ c.0.number
sum_key voids table slot c s e = by (is_none (reading_at table (c.0.number, slot)) && (marked_one voids (keyed_one slot c)).1.counted) (total c.0 (with_row (c.0.number, slot) (marked_one voids (keyed_one slot c)).1 table)) e
  where
    by : (b : Bool) (t : ℕ) → cond b (Some (let pair : ℕ × ℕ = (c.0.number, t) in pair)) None ≡ Some s → s.0 ≡ c.0.number
    by true t f = sym (ap (λ (p : ℕ × ℕ). p.0) (same_Some _ s f))
    by false t f = absurd (none-some s f)

-- none of points that come later
no_sum : (voids : Voids) (table : Readings) (slot n k : ℕ) (covered : List (PointRow × List ℕ)) → Rises n (keyed slot covered) → k ≤ n → sum_at (new_sums voids table slot covered) k ≡ None
no_sum voids table slot n k [] rise le = refl
no_sum voids table slot n k (c ∷ covered) rise le =
    let low : n < c.0.number = rise.0 in
    by (new_sum voids table slot c) (λ s e. sum_key voids table slot c s e) low (no_sum voids table slot c.0.number k covered rise.1 (omega arith))
  where
    by : (o : Option (ℕ × ℕ)) → ((s : ℕ × ℕ) → o ≡ Some s → s.0 ≡ c.0.number) → n < c.0.number → sum_at (new_sums voids table slot covered) k ≡ None
        → sum_at (cons_option o (new_sums voids table slot covered)) k ≡ None
    by None key low rest = rest
    by (Some s) key low rest =
        let is : s.0 ≡ c.0.number = key s refl in
        ap (λ b. cond b (Some s.1) (sum_at (new_sums voids table slot covered) k)) (unsigned_tied k s.0 ∙ ne_eqb k s.0 (λ e. omega arith)) ∙ rest

-- the readings of points that come later are of others
rise_others : (known : PointRow) (n : ℕ) (xs : Readings) → Rises n xs → known.number ≤ n → All (IsOther known) xs
rise_others known n [] rise le = All-nil (IsOther known)
rise_others known n (x ∷ xs) rise le =
    let low : n < x.0.0 = rise.0 in
    All-cons (IsOther known) x xs (λ e. omega (arith, e)) (rise_others known x.0.0 xs rise.1 (omega arith))

abbrev lacks : Readings → Key × Reading → Bool
lacks table row = is_none (reading_at table row.0)

-- what becomes of a total by the readings of a reply
after_reply : (known : PointRow) (points : List PointRow) (voids : Voids) (table : Readings) (slot n : ℕ) (covered : List (PointRow × List ℕ)) → AreNumbered 0 points → Contains points known
    → AreByKey table → All (λ c. Contains points c.0) covered → Rises n (keyed slot covered)
    → option_or (sum_at (new_sums voids table slot covered) known.number) (Some (total known table)) ≡ Some (total known (with_rows (new_rows table (marked voids (keyed slot covered))) table))
after_reply known points voids table slot n [] numbered there sorted are rise = refl
after_reply known points voids table slot n (c ∷ covered) numbered there sorted are rise =
    by (eqb c.0.number known.number) refl
    (after_reply known points voids table slot c.0.number covered numbered there sorted (All-tail (λ (x : PointRow × List ℕ). Contains points x.0) c covered are) rise.1)
  where
    later : Readings
    later = new_rows table (marked voids (keyed slot covered))

    sums : Sums
    sums = new_sums voids table slot covered

    Claim : Type 0
    Claim = option_or (sum_at (cons_option (new_sum voids table slot c) sums) known.number) (Some (total known table))
        ≡ Some (total known (with_rows (cond (lacks table (marked_one voids (keyed_one slot c))) (marked_one voids (keyed_one slot c) ∷ later) later) table))

    -- of another point
    other : c.0.number ≢ known.number → option_or (sum_at sums known.number) (Some (total known table)) ≡ Some (total known (with_rows later table)) → Claim
    other apart rest =
        ap (λ o. option_or o (Some (total known table))) (head (new_sum voids table slot c) (λ s e. sum_key voids table slot c s e))
        ∙ rest
        ∙ row (lacks table (marked_one voids (keyed_one slot c)))
      where
        head : (o : Option (ℕ × ℕ)) → ((s : ℕ × ℕ) → o ≡ Some s → s.0 ≡ c.0.number) → sum_at (cons_option o sums) known.number ≡ sum_at sums known.number
        head None key = refl
        head (Some s) key =
            ap (λ b. cond b (Some s.1) (sum_at sums known.number)) (unsigned_tied known.number s.0 ∙ ne_eqb known.number s.0 (λ e. apart (sym (e ∙ key s refl))))

        row : (b : Bool) → Some (total known (with_rows later table)) ≡ Some (total known (with_rows (cond b (marked_one voids (keyed_one slot c) ∷ later) later) table))
        row true = ap Some (sym (of_another_is known (c.0.number, slot) (marked_one voids (keyed_one slot c)).1 (with_rows later table) apart))
        row false = refl

    -- of this point, whose later readings are none
    own : c.0 ≡ known → Claim
    own same = subst (λ (k : PointRow). option_or (sum_at (cons_option (new_sum voids table slot c) sums) k.number) (Some (total k table))
        ≡ Some (total k (with_rows (cond (lacks table (marked_one voids (keyed_one slot c))) (marked_one voids (keyed_one slot c) ∷ later) later) table))) same (here (reading_at table (c.0.number, slot)) (counted_in voids slot c.0 c.1) refl refl)
      where
        others : All (IsOther c.0) later
        others = All-filter (lacks table) (IsOther c.0) (marked voids (keyed slot covered)) (rise_others c.0 c.0.number (marked voids (keyed slot covered)) (marked_rise voids c.0.number (keyed slot covered) rise.1) (omega arith))

        none_later : sum_at sums c.0.number ≡ None
        none_later = no_sum voids table slot c.0.number c.0.number covered rise.1 (omega arith)

        reading : Reading
        reading = (marked_one voids (keyed_one slot c)).1

        sum : ℕ
        sum = total c.0 (with_row (c.0.number, slot) reading table)

        here : (o : Option Reading) (v : Option ℕ) → reading_at table (c.0.number, slot) ≡ o → counted_in voids slot c.0 c.1 ≡ v
            → option_or (sum_at (cons_option (cond (is_none (reading_at table (c.0.number, slot)) && reading.counted) (Some (c.0.number, sum)) None) sums) c.0.number) (Some (total c.0 table))
            ≡ Some (total c.0 (with_rows (cond (is_none (reading_at table (c.0.number, slot))) ((((c.0.number, slot), reading)) ∷ later) later) table))
        here (Some r) v e f =
            ap (λ o. option_or (sum_at (cons_option (cond (is_none o && reading.counted) (Some (let pair : ℕ × ℕ = (c.0.number, sum) in pair)) None) sums) c.0.number) (Some (total c.0 table))) e
            ∙ ap (λ o. option_or o (Some (total c.0 table))) none_later
            ∙ ap Some (sym (total_others c.0 later table others))
            ∙ sym (ap (λ o. Some (total c.0 (with_rows (cond (is_none o) ((let pair : Key × Reading = ((c.0.number, slot), reading) in pair) ∷ later) later) table))) e)
        here None (Some number) e f =
            ap (λ o. option_or (sum_at (cons_option (cond (is_none o && reading.counted) (Some (let pair : ℕ × ℕ = (c.0.number, sum) in pair)) None) sums) c.0.number) (Some (total c.0 table))) e
            ∙ ap (λ b. option_or (sum_at (cons_option (cond b (Some (let pair : ℕ × ℕ = (c.0.number, sum) in pair)) None) sums) c.0.number) (Some (total c.0 table))) (mark_is voids slot c.0 c.1 ∙ ap is_some f)
            ∙ ap (λ b. option_or (cond b (Some sum) (sum_at sums c.0.number)) (Some (total c.0 table))) (unsigned_tied c.0.number c.0.number ∙ eq-eqb c.0.number c.0.number refl)
            ∙ ap Some (sym (total_beside c.0 slot reading later table sorted others))
            ∙ sym (ap (λ o. Some (total c.0 (with_rows (cond (is_none o) ((let pair : Key × Reading = ((c.0.number, slot), reading) in pair) ∷ later) later) table))) e)
        here None None e f =
            ap (λ o. option_or (sum_at (cons_option (cond (is_none o && reading.counted) (Some (let pair : ℕ × ℕ = (c.0.number, sum) in pair)) None) sums) c.0.number) (Some (total c.0 table))) e
            ∙ ap (λ b. option_or (sum_at (cons_option (cond b (Some (let pair : ℕ × ℕ = (c.0.number, sum) in pair)) None) sums) c.0.number) (Some (total c.0 table))) (mark_is voids slot c.0 c.1 ∙ ap is_some f)
            ∙ ap (λ o. option_or o (Some (total c.0 table))) none_later
            ∙ ap Some (sym (total_beside c.0 slot reading later table sorted others
            ∙ not_counted_is c.0 slot reading table sorted e (ap (λ b. cond b (counted_number c.0.point c.1) None) (mark_is voids slot c.0 c.1 ∙ ap is_some f))))
            ∙ sym (ap (λ o. Some (total c.0 (with_rows (cond (is_none o) ((let pair : Key × Reading = ((c.0.number, slot), reading) in pair) ∷ later) later) table))) e)

    by : (b : Bool) → eqb c.0.number known.number ≡ b → option_or (sum_at sums known.number) (Some (total known table)) ≡ Some (total known (with_rows later table)) → Claim
    by true e rest = own (one_point 0 points c.0 known numbered (All-head (λ (x : PointRow × List ℕ). Contains points x.0) c covered are) there (eqb-true c.0.number known.number e))
    by false e rest = other (eqb-false c.0.number known.number e) rest

-- ---- totals by the numbers of counters

-- the counter of a number
abbrev counter_at : List PointRow → ℕ → Option PointRow
counter_at [] k = None
counter_at (x ∷ xs) k = cond (is_counter x.point.role && eqb k x.number) (Some x) (counter_at xs k)

-- what totals have of a number
sum_of : (points : List PointRow) (table : Readings) (k : ℕ) → sum_at (totals_of points table) k ≡ option_map (λ x. total x table) (counter_at points k)
sum_of [] table k = refl
sum_of (x ∷ xs) table k = by (is_counter x.point.role) (sum_of xs table k)
  where
    rest : Sums
    rest = totals_of xs table

    tied : (b : Bool) → sum_at rest k ≡ option_map (λ x. total x table) (counter_at xs k)
        → cond b (Some (total x table)) (sum_at rest k) ≡ option_map (λ x. total x table) (cond b (Some x) (counter_at xs k))
    tied true e = refl
    tied false e = e

    by : (b : Bool) → sum_at rest k ≡ option_map (λ x. total x table) (counter_at xs k)
        → sum_at (map (λ (known : PointRow). (known.number, total known table)) (cond b (x ∷ filter (λ known. is_counter known.point.role) xs) (filter (λ known. is_counter known.point.role) xs))) k
        ≡ option_map (λ x. total x table) (cond (b && eqb k x.number) (Some x) (counter_at xs k))
    by true e = ap (λ b. cond b (Some (total x table)) (sum_at rest k)) (unsigned_tied k x.number) ∙ tied (eqb k x.number) e
    by false e = e

record IsCounterAt (points : List PointRow) (k : ℕ) (x : PointRow) : Type 0 where
  there : Contains points x
  number : x.number ≡ k
  counts : is_counter x.point.role ≡ true

counter_is : (points : List PointRow) (k : ℕ) (x : PointRow) → counter_at points k ≡ Some x → IsCounterAt points k x
counter_is [] k x e = absurd (none-some x e)
counter_is (y ∷ ys) k x e = by (is_counter y.point.role) (eqb k y.number) refl refl e (counter_is ys k x)
  where
    later : IsCounterAt ys k x → IsCounterAt (y ∷ ys) k x
    later is = record { there = further y ys x is.there; number = is.number; counts = is.counts }

    by : (a b : Bool) → is_counter y.point.role ≡ a → eqb k y.number ≡ b → cond (a && b) (Some y) (counter_at ys k) ≡ Some x
        → (counter_at ys k ≡ Some x → IsCounterAt ys k x) → IsCounterAt (y ∷ ys) k x
    by true true counts number f rest =
        let same : y ≡ x = same_Some y x f in
        record {
          there = subst (λ z. Contains (y ∷ ys) z) same (foremost y ys);
          number = ap (λ (z : PointRow). z.number) (sym same) ∙ sym (eqb-true k y.number number);
          counts = ap (λ (z : PointRow). is_counter z.point.role) (sym same) ∙ counts;
        }
    by true false counts number f rest = later (rest f)
    by false b counts number f rest = later (rest f)

counter_found : (n : ℕ) (points : List PointRow) (x : PointRow) → AreNumbered n points → Contains points x → is_counter x.point.role ≡ true → counter_at points x.number ≡ Some x
counter_found n [] x numbered there counts = absurd (in_none x there)
counter_found n (y ∷ ys) x numbered there counts = by (λ rest. counter_found (n + 1) ys x numbered.1 rest counts) (among y ys x there)
  where
    skip : (a : Bool) → eqb x.number y.number ≡ false → cond (a && eqb x.number y.number) (Some y) (counter_at ys x.number) ≡ counter_at ys x.number
    skip true e = ap (λ b. cond b (Some y) (counter_at ys x.number)) e
    skip false e = refl

    by : (Contains ys x → counter_at ys x.number ≡ Some x) → (y ≡ x) ⊎ Contains ys x → counter_at (y ∷ ys) x.number ≡ Some x
    by later (inl same) =
        ap (λ (z : PointRow). counter_at (z ∷ ys) x.number) same
        ∙ ap (λ b. cond (b && eqb x.number x.number) (Some x) (counter_at ys x.number)) counts
        ∙ ap (λ b. cond b (Some x) (counter_at ys x.number)) (eq-eqb x.number x.number refl)
    by later (inr rest) =
        let first = numbered.0 in
        let past = (number_in (n + 1) ys x numbered.1 rest).0 in
        skip (is_counter y.point.role) (ne_eqb x.number y.number (λ e. omega (arith, e, first, past))) ∙ later rest

counter_append : (xs ys : List PointRow) (k : ℕ) → counter_at (xs ++ ys) k ≡ option_or (counter_at xs k) (counter_at ys k)
counter_append [] ys k = refl
counter_append (x ∷ xs) ys k = ap (cond (is_counter x.point.role && eqb k x.number) (Some x)) (counter_append xs ys k) ∙ by (is_counter x.point.role && eqb k x.number)
  where
    by : (b : Bool) → cond b (Some x) (option_or (counter_at xs k) (counter_at ys k)) ≡ option_or (cond b (Some x) (counter_at xs k)) (counter_at ys k)
    by true = refl
    by false = refl

-- ---- totals lie by number

both_true : (a b : Bool) → T a → T b → T (a && b)
both_true true b p q = q
both_true false b p q = p

below_sums : (m n : ℕ) (points : List PointRow) (table : Readings) → AreNumbered n points → m ≤ n → T (rows.below_all nat_cmp m (totals_of points table))
below_sums m n [] table numbered le = tt
below_sums m n (x ∷ xs) table numbered le = by (is_counter x.point.role) (below_sums m (n + 1) xs table numbered.1 (omega arith))
  where
    by : (b : Bool) → T (rows.below_all nat_cmp m (totals_of xs table))
        → T (rows.below_all nat_cmp m (map (λ (known : PointRow). (known.number, total known table)) (cond b (x ∷ filter (λ known. is_counter known.point.role) xs) (filter (λ known. is_counter known.point.role) xs))))
    by true rest =
        let first = numbered.0 in
        let less : nat_cmp m x.number ≡ Less = sym (nat_cmp_is m x.number Less (omega arith)) in
        both_true _ _ (subst (λ o. T (is_lt o)) (sym less) tt) rest
    by false rest = rest

sums_sorted : (n : ℕ) (points : List PointRow) (table : Readings) → AreNumbered n points → T (rows.is_sorted nat_cmp (totals_of points table))
sums_sorted n [] table numbered = tt
sums_sorted n (x ∷ xs) table numbered = by (is_counter x.point.role) (sums_sorted (n + 1) xs table numbered.1)
  where
    by : (b : Bool) → T (rows.is_sorted nat_cmp (totals_of xs table))
        → T (rows.is_sorted nat_cmp (map (λ (known : PointRow). (known.number, total known table)) (cond b (x ∷ filter (λ known. is_counter known.point.role) xs) (filter (λ known. is_counter known.point.role) xs))))
    by true rest = let first = numbered.0 in both_true _ _ (below_sums x.number (n + 1) xs table numbered.1 (omega arith)) rest
    by false rest = rest

with_sums_sorted : (xs table : Sums) → T (rows.is_sorted nat_cmp table) → T (rows.is_sorted nat_cmp (with_sums xs table))
with_sums_sorted [] table h = h
with_sums_sorted (x ∷ xs) table h = rows.is_sorted-put nat_cmp nat_cmp_total x.0 x.1 (with_sums xs table) (with_sums_sorted xs table h)

at_with_sums : (xs table : Sums) (k : ℕ) → sum_at (with_sums xs table) k ≡ option_or (sum_at xs k) (sum_at table k)
at_with_sums [] table k = refl
at_with_sums (x ∷ xs) table k =
    rows.find-put nat_cmp nat_cmp_total k x.0 x.1 (with_sums xs table)
    ∙ ap (cond (eq_by_cmp nat_cmp k x.0) (Some x.1)) (at_with_sums xs table k)
    ∙ by (eq_by_cmp nat_cmp k x.0)
  where
    by : (b : Bool) → cond b (Some x.1) (option_or (sum_at xs k) (sum_at table k)) ≡ option_or (cond b (Some x.1) (sum_at xs k)) (sum_at table k)
    by true = refl
    by false = refl

-- ---- a reply

-- a total that changes is a counter's that is known
record OfCounter (points : List PointRow) (k : ℕ) : Type 0 where
  counter : PointRow
  is : IsCounterAt points k counter

sum_counter : (points : List PointRow) (voids : Voids) (table : Readings) (slot : ℕ) (c : PointRow × List ℕ) (s : ℕ × ℕ) → Contains points c.0 → new_sum voids table slot c ≡ Some s → IsCounterAt points s.0 c.0
sum_counter points voids table slot c s there e = by (is_none (reading_at table (c.0.number, slot))) (counted_in voids slot c.0 c.1) refl (ap (λ b. cond (is_none (reading_at table (c.0.number, slot)) && b) (Some (let pair : ℕ × ℕ = (c.0.number, total c.0 (with_row (c.0.number, slot) (marked_one voids (keyed_one slot c)).1 table)) in pair)) None) (sym (mark_is voids slot c.0 c.1)) ∙ e)
  where
    by : (a : Bool) (v : Option ℕ) → counted_in voids slot c.0 c.1 ≡ v
        → cond (a && is_some (counted_in voids slot c.0 c.1)) (Some (let pair : ℕ × ℕ = (c.0.number, total c.0 (with_row (c.0.number, slot) (marked_one voids (keyed_one slot c)).1 table)) in pair)) None ≡ Some s → IsCounterAt points s.0 c.0
    by true (Some n) counts f = record {
      there = there;
      number = ap (λ (p : ℕ × ℕ). p.0) (same_Some _ s (ap (λ v. cond (is_some v) (Some (let pair : ℕ × ℕ = (c.0.number, total c.0 (with_row (c.0.number, slot) (marked_one voids (keyed_one slot c)).1 table)) in pair)) None) (sym counts) ∙ f));
      counts = of_counter c.0.point c.1 n (its_own (is_void voids (c.0.number, slot)) (counted_number c.0.point c.1) n counts);
    }
    by true None counts f = absurd (none-some s (ap (λ v. cond (is_some v) (Some (let pair : ℕ × ℕ = (c.0.number, total c.0 (with_row (c.0.number, slot) (marked_one voids (keyed_one slot c)).1 table)) in pair)) None) (sym counts) ∙ f))
    by false v counts f = absurd (none-some s f)

sums_counter : (points : List PointRow) (voids : Voids) (table : Readings) (slot : ℕ) (covered : List (PointRow × List ℕ)) (k s : ℕ) → All (λ c. Contains points c.0) covered
    → sum_at (new_sums voids table slot covered) k ≡ Some s → OfCounter points k
sums_counter points voids table slot [] k s are e = absurd (none-some s e)
sums_counter points voids table slot (c ∷ covered) k s are e =
    by (new_sum voids table slot c) (λ t f. sum_counter points voids table slot c t (All-head (λ (x : PointRow × List ℕ). Contains points x.0) c covered are) f)
    (sums_counter points voids table slot covered k s (All-tail (λ (x : PointRow × List ℕ). Contains points x.0) c covered are)) e
  where
    by : (o : Option (ℕ × ℕ)) → ((t : ℕ × ℕ) → o ≡ Some t → IsCounterAt points t.0 c.0) → (sum_at (new_sums voids table slot covered) k ≡ Some s → OfCounter points k)
        → sum_at (cons_option o (new_sums voids table slot covered)) k ≡ Some s → OfCounter points k
    by None key rest f = rest f
    by (Some t) key rest f = tied (eq_by_cmp nat_cmp k t.0) refl f
      where
        tied : (b : Bool) → eq_by_cmp nat_cmp k t.0 ≡ b → cond b (Some t.1) (sum_at (new_sums voids table slot covered) k) ≡ Some s → OfCounter points k
        tied true same g =
            let own = key t refl in
            record { counter = c.0; is = record { there = own.there; number = own.number ∙ sym (eqb-true k t.0 (sym (unsigned_tied k t.0) ∙ same)); counts = own.counts } }
        tied false other g = rest g

-- the totals after a reply
pub recorded_sums : (points : List PointRow) (voids : Voids) (table : Readings) (slot : ℕ) (covered : List (PointRow × List ℕ)) → AreNumbered 0 points → AreByKey table → AreCovered points slot covered
    → with_sums (new_sums voids table slot covered) (totals_of points table) ≡ totals_of points (with_rows (new_rows table (marked voids (keyed slot covered))) table)
recorded_sums points voids table slot covered numbered sorted are =
    rows.same_entries nat_cmp nat_cmp_total exact_unsigned (with_sums sums old) new (with_sums_sorted sums old (sums_sorted 0 points table numbered)) (sums_sorted 0 points after numbered)
    (λ k. at_with_sums sums old k ∙ by k (counter_at points k) refl)
  where
    sums : Sums
    sums = new_sums voids table slot covered

    old : Sums
    old = totals_of points table

    after : Readings
    after = with_rows (new_rows table (marked voids (keyed slot covered))) table

    new : Sums
    new = totals_of points after

    none : (k : ℕ) (o : Option ℕ) → sum_at sums k ≡ o → counter_at points k ≡ None → o ≡ None
    none k None e f = refl
    none k (Some s) e f =
        let of = sums_counter points voids table slot covered k s are.known e in
        let found : counter_at points k ≡ Some of.counter = ap (counter_at points) (sym of.is.number) ∙ counter_found 0 points of.counter numbered of.is.there of.is.counts in
        absurd (none-some of.counter (sym f ∙ found))

    by : (k : ℕ) (o : Option PointRow) → counter_at points k ≡ o → option_or (sum_at sums k) (sum_at old k) ≡ sum_at new k
    by k None e =
        ap (option_or (sum_at sums k)) (sum_of points table k ∙ ap (option_map (λ x. total x table)) e)
        ∙ ap (λ o. option_or o None) (none k (sum_at sums k) refl e)
        ∙ sym (sum_of points after k ∙ ap (option_map (λ x. total x after)) e)
    by k (Some known) e =
        let is = counter_is points k known e in
        ap (option_or (sum_at sums k)) (sum_of points table k ∙ ap (option_map (λ x. total x table)) e)
        ∙ ap (λ n. option_or (sum_at sums n) (Some (total known table))) (sym is.number)
        ∙ after_reply known points voids table slot 0 covered numbered is.there sorted are.known are.rise
        ∙ sym (sum_of points after k ∙ ap (option_map (λ x. total x after)) e)

-- each of them is there already
pub sums_there : (points : List PointRow) (voids : Voids) (table : Readings) (slot : ℕ) (covered : List (PointRow × List ℕ)) → AreNumbered 0 points → All (λ c. Contains points c.0) covered
    → AreThere (totals_of points table) (new_sums voids table slot covered)
sums_there points voids table slot [] numbered are = tt
sums_there points voids table slot (c ∷ covered) numbered are =
    by (new_sum voids table slot c) (λ t f. sum_counter points voids table slot c t (All-head (λ (x : PointRow × List ℕ). Contains points x.0) c covered are) f)
    (sums_there points voids table slot covered numbered (All-tail (λ (x : PointRow × List ℕ). Contains points x.0) c covered are))
  where
    by : (o : Option (ℕ × ℕ)) → ((t : ℕ × ℕ) → o ≡ Some t → IsCounterAt points t.0 c.0) → AreThere (totals_of points table) (new_sums voids table slot covered)
        → AreThere (totals_of points table) (cons_option o (new_sums voids table slot covered))
    by None key rest = rest
    by (Some t) key rest =
        let is = key t refl in (
          ap is_some (ap (sum_at (totals_of points table)) (sym is.number) ∙ sum_of points table c.0.number ∙ ap (option_map (λ x. total x table)) (counter_found 0 points c.0 numbered is.there is.counts)),
          rest,
        )

-- the numbers of totals are those of the counters
pub sum_numbers : (points : List PointRow) (table : Readings) → map (λ row. row.0) (totals_of points table) ≡ counters points
sum_numbers [] table = refl
sum_numbers (x ∷ xs) table = by (is_counter x.point.role) (sum_numbers xs table)
  where
    by : (b : Bool) → map (λ row. row.0) (totals_of xs table) ≡ counters xs
        → map (λ (row : ℕ × ℕ). row.0) (map (λ (known : PointRow). (known.number, total known table)) (cond b (x ∷ filter (λ known. is_counter known.point.role) xs) (filter (λ known. is_counter known.point.role) xs)))
        ≡ map (λ (known : PointRow). known.number) (cond b (x ∷ filter (λ known. is_counter known.point.role) xs) (filter (λ known. is_counter known.point.role) xs))
    by true e = ap (λ l. x.number ∷ l) e
    by false e = e

-- what is stored of a counter that is known is its total
pub stored_sum : (points : List PointRow) (table : Readings) (known : PointRow) → AreNumbered 0 points → Contains points known → is_counter known.point.role ≡ true
    → sum_at (totals_of points table) known.number ≡ Some (total known table)
stored_sum points table known numbered there counts = sum_of points table known.number ∙ ap (option_map (λ x. total x table)) (counter_found 0 points known numbered there counts)

-- ---- points

-- a point without readings has the total 0
no_readings : (known : PointRow) (m : ℕ) (table : Readings) → All (λ row. row.0.0 ≤ m) table → m < known.number → counted_numbers known table ≡ []
no_readings known m [] are past = refl
no_readings known m (x ∷ table) are past =
    let first = All-head (λ (row : Key × Reading). row.0.0 ≤ m) x table are in
    ap (λ b. cons_option (cond (b && x.1.counted) (counted_number known.point x.1.words) None) (counted_numbers known table)) (ne_eqb x.0.0 known.number (λ e. omega (arith, e, first, past)))
    ∙ no_readings known m table (All-tail (λ (row : Key × Reading). row.0.0 ≤ m) x table are) past

-- the totals after points are accepted
pub loaded_sums : (points more : List PointRow) (table : Readings) → AreNumbered 0 points → AreNumbered (length points) more → AreNumbered 0 (points ++ more)
    → All (λ row. row.0.0 ≤ length points) table → with_sums (totals_of more []) (totals_of points table) ≡ totals_of (points ++ more) table
loaded_sums points more table numbered next all known =
    rows.same_entries nat_cmp nat_cmp_total exact_unsigned (with_sums fresh old) (totals_of (points ++ more) table) (with_sums_sorted fresh old (sums_sorted 0 points table numbered))
    (sums_sorted 0 (points ++ more) table all)
    (λ k.
    at_with_sums fresh old k
    ∙ (λ i. option_or (sum_of more [] k i) (sum_of points table k i))
    ∙ by k (counter_at points k) (counter_at more k) refl refl
    ∙ ap (option_map (λ x. total x table)) (sym (counter_append points more k))
    ∙ sym (sum_of (points ++ more) table k))
  where
    fresh : Sums
    fresh = totals_of more []

    old : Sums
    old = totals_of points table

    by : (k : ℕ) (a b : Option PointRow) → counter_at points k ≡ a → counter_at more k ≡ b
        → option_or (option_map (λ x. total x []) b) (option_map (λ x. total x table) a) ≡ option_map (λ x. total x table) (option_or a b)
    by k None None e f = refl
    by k (Some x) None e f = refl
    by k None (Some y) e f =
        let is = counter_is more k y f in
        let past = (number_in (length points) more y next is.there).0 in
        ap (λ l. Some (steps y.point.roll l)) (sym (no_readings y (length points) table known past))
    by k (Some x) (Some y) e f =
        let is = counter_is more k y f in
        let was = counter_is points k x e in
        let past = (number_in (length points) more y next is.there).0 in
        let low = (number_in 0 points x numbered was.there).1 in
        let m = is.number in
        let n = was.number in absurd (omega arith)

-- ---- a reading that is written over

-- the totals after a reading of a counter is written over
pub written_sum : (points : List PointRow) (table : Readings) (known : PointRow) (key : Key) (reading : Reading) → AreNumbered 0 points → Contains points known
    → is_counter known.point.role ≡ true → key.0 ≡ known.number
    → with_sums ((known.number, total known (with_row key reading table)) ∷ []) (totals_of points table) ≡ totals_of points (with_row key reading table)
written_sum points table known key reading numbered there counts own =
    rows.same_entries nat_cmp nat_cmp_total exact_unsigned (with_sums sums old) new (with_sums_sorted sums old (sums_sorted 0 points table numbered)) (sums_sorted 0 points after numbered)
    (λ k. at_with_sums sums old k ∙ by k (counter_at points k) refl ∙ sym (sum_of points after k))
  where
    after : Readings
    after = with_row key reading table

    sums : Sums
    sums = (known.number, total known after) ∷ []

    old : Sums
    old = totals_of points table

    new : Sums
    new = totals_of points after

    at_sums : (k : ℕ) → sum_at sums k ≡ cond (eqb k known.number) (Some (total known after)) None
    at_sums k = ap (λ b. cond b (Some (total known after)) None) (unsigned_tied k known.number)

    found : counter_at points known.number ≡ Some known
    found = counter_found 0 points known numbered there counts

    by : (k : ℕ) (o : Option PointRow) → counter_at points k ≡ o → option_or (sum_at sums k) (sum_at old k) ≡ option_map (λ x. total x after) (counter_at points k)
    by k o e = at (eqb k known.number) refl o e
      where
        at : (b : Bool) → eqb k known.number ≡ b → (o : Option PointRow) → counter_at points k ≡ o → option_or (sum_at sums k) (sum_at old k) ≡ option_map (λ x. total x after) (counter_at points k)
        at true same o e =
            ap (λ s. option_or s (sum_at old k)) (at_sums k ∙ ap (λ b. cond b (Some (total known after)) None) same)
            ∙ sym (ap (option_map (λ x. total x after)) (ap (counter_at points) (eqb-true k known.number same) ∙ found))
        at false other None e =
            ap (λ s. option_or s (sum_at old k)) (at_sums k ∙ ap (λ b. cond b (Some (total known after)) None) other)
            ∙ sum_of points table k ∙ ap (option_map (λ x. total x table)) e ∙ sym (ap (option_map (λ x. total x after)) e)
        at false other (Some x) e =
            let is = counter_is points k x e in
            let apart : key.0 ≢ x.number = λ same. eqb-false k known.number other (sym is.number ∙ sym same ∙ own) in
            ap (λ s. option_or s (sum_at old k)) (at_sums k ∙ ap (λ b. cond b (Some (total known after)) None) other)
            ∙ sum_of points table k ∙ ap (option_map (λ x. total x table)) e
            ∙ ap Some (sym (of_another_is x key reading table apart))
            ∙ sym (ap (option_map (λ x. total x after)) e)
