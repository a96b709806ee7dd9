-- A total is the sum of the steps from slot to slot, over the slots whose readings count.
use Rattle.std.proofs.Common.{◌≡◌, ◌⊎◌, ◌<◌, ◌≤◌, ◌+◌, ◌-◌, ℕ, zero, suc, Bool, true, false, cond, eqb, ◌&&◌, T, List, [], ◌∷◌, length, get_or, Option, Some, None, inl, inr, refl, sym, ap, ◌∙◌, subst, arith}
use Rattle.std.specs.Prelude.{Contains, option_map, filter_map}
use Rattle.std.specs.List.{range_with_len, sum_by, cons_option}
use Rattle.std.specs.Ordering.{is_lt, is_eq, eq_by_cmp, nat_cmp, ordering_then}
use Rattle.std.specs.Cmp.{nat_cmp_is}
use Rattle.std.specs.declared.cmp.Ordering.{Ordering}
use Rattle.std.specs.declared.cmp.Ordering.TheVariants.{Less, Equal, Greater}
use Rattle.std.specs.FinMap.Entries as rows
use Rattle.std.proofs.lemmas.Bool.{eqb-true, eq-eqb, cases_lt}
use Rattle.std.proofs.lemmas.List.Sums.{sum_by-cons}
use Rattle.std.proofs.lemmas.Option.{none-some, same_Some}
use Rattle.poll_book.specs.declared.rows.PointRow.{PointRow}
use Rattle.poll_book.specs.declared.rows.Reading.{Reading}
use Rattle.poll_book.specs.Tables.{Key, key_cmp, Readings, reading_at, with_rows}
use Rattle.poll_book.specs.Totals.{counted_number, counted_numbers, steps}
use Rattle.poll_book.specs.Histories.{IsRising}
use Rattle.poll_book.proofs.Tabled.{keys_total}
use Rattle.office_core.specs.History.{History, given, kept_readings, readings, total, voids}
use Rattle.office_core.specs.FirstArrivals.{AreBySlot, step, sum_of_steps, numbers_of}
use Rattle.office_core.proofs.Elements.{among, in_none, further, foremost}
use Rattle.office_core.proofs.FirstArrivals.{same_key, own_key}
use Rattle.office_core.proofs.Marks.{marked_sorted}

-- ---- sums of steps

-- a sum over places that begin one later
later_places : (f : ℕ → ℕ) (a n : ℕ) → sum_by f (range_with_len (a + 1) n) ≡ sum_by (λ k. f (suc k)) (range_with_len a n)
later_places f a zero = refl
later_places f a (suc n) =
    sum_by-cons f (a + 1) (range_with_len (a + 1 + 1) n)
    ∙ ap (λ s. f (a + 1) + s) (later_places f (a + 1) n)
    ∙ ap (λ b. f b + sum_by (λ k. f (suc k)) (range_with_len (a + 1) n)) (omega arith)
    ∙ sym (sum_by-cons (λ k. f (suc k)) a (range_with_len (a + 1) n))

-- the recursion over numbers is the sum over their places
pub steps_summed : (roll : ℕ) (numbers : List ℕ) → steps roll numbers ≡ sum_of_steps roll numbers
steps_summed roll [] = refl
steps_summed roll (v ∷ []) = refl
steps_summed roll (v ∷ w ∷ rest) =
    let here : ℕ → ℕ = λ k. step roll (get_or (v ∷ w ∷ rest) k 0) (get_or (v ∷ w ∷ rest) (k + 1) 0) in
    let past : ℕ → ℕ = λ k. step roll (get_or (w ∷ rest) k 0) (get_or (w ∷ rest) (k + 1) 0) in
    let next : (k : ℕ) → suc k + 1 ≡ suc (k + 1) = λ k. omega arith in
    let fewer : length (w ∷ rest) - 1 ≡ length rest = omega arith in
    let longer : suc (length rest) ≡ length (v ∷ w ∷ rest) - 1 = omega arith in
    ap (λ s. step roll v w + s) (steps_summed roll (w ∷ rest))
    ∙ ap (λ n. step roll v w + sum_by past (range_with_len 0 n)) fewer
    ∙ ap (λ g. step roll v w + sum_by g (range_with_len 0 (length rest))) (λ i k. step roll (get_or (w ∷ rest) k 0) (get_or (v ∷ w ∷ rest) (sym (next k) i) 0))
    ∙ ap (λ s. step roll v w + s) (sym (later_places here 0 (length rest)))
    ∙ sym (sum_by-cons here 0 (range_with_len 1 (length rest)))
    ∙ ap (λ n. sum_by here (range_with_len 0 n)) longer

-- ---- readings lie in the order of their keys

sorted_rows : (xs table : Readings) → T (rows.is_sorted key_cmp table) → T (rows.is_sorted key_cmp (with_rows xs table))
sorted_rows [] table h = h
sorted_rows (x ∷ xs) table h = rows.is_sorted-put key_cmp keys_total x.0 x.1 (with_rows xs table) (sorted_rows xs table h)

pub readings_sorted : (before : History) → T (rows.is_sorted key_cmp (readings before))
readings_sorted before = sorted_rows (given before) [] tt

pub kept_sorted : (before : History) → T (rows.is_sorted key_cmp (kept_readings before))
kept_sorted before = marked_sorted (voids before) (readings before) (readings_sorted before)

first_of_two : (a b : Bool) → T (a && b) → T a
first_of_two true b h = tt
first_of_two false b h = h

second_of_two : (a b : Bool) → T (a && b) → T b
second_of_two true b h = h
second_of_two false b h = absurd h

-- slots of one point lie as numbers do
slot_less : (p s q t : ℕ) → p ≡ q → T (is_lt (key_cmp (p, s) (q, t))) → s < t
slot_less p s q t same h =
    by (cases_lt s t)
    (subst (λ o. T (is_lt (ordering_then o (nat_cmp s t)))) (sym (nat_cmp_is p q Equal same)) h)
  where
    by : (s < t) ⊎ (t ≤ s) → T (is_lt (nat_cmp s t)) → s < t
    by (inl lt) l = lt
    by (inr le) l = no (cases_lt t s) l
      where
        no : (t < s) ⊎ (s ≤ t) → T (is_lt (nat_cmp s t)) → s < t
        no (inl gt) l = absurd (subst (λ o. T (is_lt o)) (sym (nat_cmp_is s t Greater gt)) l)
        no (inr ge) l = absurd (subst (λ o. T (is_lt o)) (sym (nat_cmp_is s t Equal (omega arith))) l)

-- a key below all has no row
below_none : (key : Key) (table : Readings) → T (rows.below_all key_cmp key table) → reading_at table key ≡ None
below_none key [] h = refl
below_none key (x ∷ table) h =
    by (key_cmp key x.0) (first_of_two _ _ h) (below_none key table (second_of_two (is_lt (key_cmp key x.0)) _ h))
  where
    by : (o : Ordering) → T (is_lt o) → reading_at table key ≡ None → cond (is_eq o) (Some x.1) (reading_at table key) ≡ None
    by Less l rest = rest
    by Equal l rest = absurd l
    by Greater l rest = absurd l

-- ---- the slots that count

module _ (known : PointRow) where
  -- the slot and number of a row of the point that counts
  abbrev pair : Key × Reading → Option (ℕ × ℕ)
  pair x = cond (eqb x.0.0 known.number && x.1.counted) (option_map (λ n. (x.0.1, n)) (counted_number known.point x.1.words)) None

  abbrev pub pairs : Readings → List (ℕ × ℕ)
  pairs table = filter_map pair table

  -- their numbers are those that count
  pub pair_numbers : (table : Readings) → counted_numbers known table ≡ numbers_of (pairs table)
  pair_numbers [] = refl
  pair_numbers (x ∷ table) = by (eqb x.0.0 known.number && x.1.counted) (counted_number known.point x.1.words) (pair_numbers table)
    where
      by : (b : Bool) (o : Option ℕ) → counted_numbers known table ≡ numbers_of (pairs table)
          → cons_option (cond b o None) (counted_numbers known table) ≡ numbers_of (cons_option (cond b (option_map (λ n. (x.0.1, n)) o) None) (pairs table))
      by true None rest = rest
      by true (Some n) rest = ap (λ l. n ∷ l) rest
      by false o rest = rest

  -- what a row that counts is
  record IsPair (x : Key × Reading) (slot number : ℕ) : Type 0 where
    of_point : x.0.0 ≡ known.number
    in_slot : x.0.1 ≡ slot
    counted : x.1.counted ≡ true
    reads : counted_number known.point x.1.words ≡ Some number

  pair_so : (x : Key × Reading) (slot number : ℕ) → pair x ≡ Some (slot, number) → IsPair x slot number
  pair_so x slot number e = by (eqb x.0.0 known.number) x.1.counted (counted_number known.point x.1.words) refl refl refl e
    where
      by : (a b : Bool) (o : Option ℕ) → eqb x.0.0 known.number ≡ a → x.1.counted ≡ b → counted_number known.point x.1.words ≡ o
          → cond (a && b) (option_map {U = ℕ × ℕ} (λ n. (x.0.1, n)) o) None ≡ Some (slot, number) → IsPair x slot number
      by true true (Some n) same c r f =
          let parts : ◌≡◌ {A = ℕ × ℕ} (x.0.1, n) (slot, number) = same_Some _ _ f in
          record {
            of_point = eqb-true x.0.0 known.number same;
            in_slot = ap (λ (p : ℕ × ℕ). p.0) parts;
            counted = c;
            reads = r ∙ ap (λ (p : ℕ × ℕ). Some p.1) parts;
          }
      by true true None same c r f = absurd (none-some _ f)
      by true false o same c r f = absurd (none-some _ f)
      by false b o same c r f = absurd (none-some _ f)

  pair_is : (x : Key × Reading) (slot number : ℕ) → IsPair x slot number → pair x ≡ Some (slot, number)
  pair_is x slot number is =
      ap (λ b. cond (b && x.1.counted) (option_map (λ n. (x.0.1, n)) (counted_number known.point x.1.words)) None) (eq-eqb x.0.0 known.number is.of_point)
      ∙ ap (λ b. cond b (option_map (λ n. (x.0.1, n)) (counted_number known.point x.1.words)) None) is.counted
      ∙ ap (λ o. option_map (λ n. (x.0.1, n)) o) is.reads
      ∙ ap (λ s. Some (s, number)) is.in_slot

  -- a pair is that of some row
  record IsOf (table : Readings) (slot number : ℕ) : Type 0 where
    reading : Reading
    stands : reading_at table (known.number, slot) ≡ Some reading
    counted : reading.counted ≡ true
    reads : counted_number known.point reading.words ≡ Some number

  -- a row stays under its key where a smaller key comes before it
  stays : (x : Key × Reading) (table : Readings) (slot : ℕ) (r : Reading) → T (rows.below_all key_cmp x.0 table)
      → reading_at table (known.number, slot) ≡ Some r → reading_at (x ∷ table) (known.number, slot) ≡ Some r
  stays x table slot r below e = by (eq_by_cmp key_cmp (known.number, slot) x.0) refl
    where
      by : (b : Bool) → eq_by_cmp key_cmp (known.number, slot) x.0 ≡ b → cond b (Some x.1) (reading_at table (known.number, slot)) ≡ Some r
      by true same =
          let none : reading_at table (known.number, slot) ≡ None =
          subst (λ k. reading_at table k ≡ None) (sym (same_key (known.number, slot) x.0 same)) (below_none x.0 table below) in
          absurd (none-some r (sym none ∙ e))
      by false other = e

  found : (table : Readings) (slot number : ℕ) → T (rows.is_sorted key_cmp table) → Contains (pairs table) (slot, number) → IsOf table slot number
  found [] slot number sorted h = absurd (in_none (slot, number) h)
  found (x ∷ table) slot number sorted h =
      by (λ there. found table slot number (second_of_two (rows.below_all key_cmp x.0 table) _ sorted) there) (pair x) refl h
    where
      later : IsOf table slot number → IsOf (x ∷ table) slot number
      later of = record {
        reading = of.reading;
        stands = stays x table slot of.reading (first_of_two _ _ sorted) of.stands;
        counted = of.counted;
        reads = of.reads;
      }

      here : (p : ℕ × ℕ) → pair x ≡ Some p → ◌≡◌ {A = ℕ × ℕ} p (slot, number) → IsOf (x ∷ table) slot number
      here p e same =
          let is = pair_so x slot number (e ∙ ap Some same) in
          let key : ◌≡◌ {A = Key} (known.number, slot) x.0 = λ i. (sym is.of_point i, sym is.in_slot i) in
          record {
            reading = x.1;
            stands = ap (λ b. cond b (Some x.1) (reading_at table (known.number, slot))) (ap (λ k. eq_by_cmp key_cmp k x.0) key ∙ own_key x.0);
            counted = is.counted;
            reads = is.reads;
          }

      by : (Contains (pairs table) (slot, number) → IsOf table slot number) → (o : Option (ℕ × ℕ)) → pair x ≡ o
          → Contains (cons_option o (pairs table)) (slot, number) → IsOf (x ∷ table) slot number
      by rest None e c = later (rest c)
      by rest (Some p) e c = elim (among p (pairs table) (slot, number) c) [ inl same ↦ here p e same | inr there ↦ later (rest there) ]

  -- and a row that counts has its pair
  has : (table : Readings) (slot number : ℕ) → IsOf table slot number → Contains (pairs table) (slot, number)
  has [] slot number of = absurd (none-some of.reading of.stands)
  has (x ∷ table) slot number of =
      by (λ e. has table slot number (record { reading = of.reading; stands = e; counted = of.counted; reads = of.reads }))
      (eq_by_cmp key_cmp (known.number, slot) x.0) refl of.stands
    where
      next : (o : Option (ℕ × ℕ)) → Contains (pairs table) (slot, number) → Contains (cons_option o (pairs table)) (slot, number)
      next None c = c
      next (Some p) c = further p (pairs table) (slot, number) c

      by : (reading_at table (known.number, slot) ≡ Some of.reading → Contains (pairs table) (slot, number))
          → (b : Bool) → eq_by_cmp key_cmp (known.number, slot) x.0 ≡ b → cond b (Some x.1) (reading_at table (known.number, slot)) ≡ Some of.reading
          → Contains (cons_option (pair x) (pairs table)) (slot, number)
      by rest true same e =
          let keys = same_key (known.number, slot) x.0 same in
          let reading : x.1 ≡ of.reading = same_Some x.1 of.reading e in
          let is : IsPair x slot number = record {
            of_point = sym (ap (λ (k : Key). k.0) keys);
            in_slot = sym (ap (λ (k : Key). k.1) keys);
            counted = ap (λ (r : Reading). r.counted) reading ∙ of.counted;
            reads = ap (λ (r : Reading). counted_number known.point r.words) reading ∙ of.reads;
          } in
          subst (λ o. Contains (cons_option o (pairs table)) (slot, number)) (sym (pair_is x slot number is)) (foremost (slot, number) (pairs table))
      by rest false other e = next (pair x) (rest e)

  -- pairs of rows above a key of the point have greater slots
  above : (key : Key) (table : Readings) (slot number : ℕ) → key.0 ≡ known.number → T (rows.below_all key_cmp key table)
      → Contains (pairs table) (slot, number) → key.1 < slot
  above key [] slot number same below h = absurd (in_none (slot, number) h)
  above key (x ∷ table) slot number same below h =
      by (λ there. above key table slot number same (second_of_two (is_lt (key_cmp key x.0)) _ below) there) (pair x) refl h
    where
      by : (Contains (pairs table) (slot, number) → key.1 < slot) → (o : Option (ℕ × ℕ)) → pair x ≡ o
          → Contains (cons_option o (pairs table)) (slot, number) → key.1 < slot
      by rest None e c = rest c
      by rest (Some p) e c = elim (among p (pairs table) (slot, number) c) [
        | inl eq ↦
            let is = pair_so x slot number (e ∙ ap Some eq) in
            let lt = slot_less key.0 key.1 x.0.0 x.0.1 (same ∙ sym is.of_point) (first_of_two _ _ below) in
            let s = is.in_slot in omega arith
        | inr there ↦ rest there
      ]

-- ---- lists whose slots rise

abbrev pub slot_of : ℕ × ℕ → ℕ
slot_of p = p.0

rising_more : (x : ℕ × ℕ) (xs : List (ℕ × ℕ)) → ((y : ℕ × ℕ) → Contains xs y → slot_of x < slot_of y) → IsRising slot_of xs → IsRising slot_of (x ∷ xs)
rising_more x xs first rest zero zero d lt within = absurd (omega arith)
rising_more x xs first rest zero (suc j) d lt within = first (get_or xs j d) (j, omega arith, at xs j d (get_or xs j d) (omega arith))
  where
    at : (ys : List (ℕ × ℕ)) (k : ℕ) (d e : ℕ × ℕ) → k < length ys → get_or ys k e ≡ get_or ys k d
    at [] k d e lt = absurd (omega arith)
    at (y ∷ ys) zero d e lt = refl
    at (y ∷ ys) (suc k) d e lt = at ys k d e (omega arith)
rising_more x xs first rest (suc i) zero d lt within = absurd (omega arith)
rising_more x xs first rest (suc i) (suc j) d lt within = rest i j d (omega arith) (omega arith)

pub rising_rest : (x : ℕ × ℕ) (xs : List (ℕ × ℕ)) → IsRising slot_of (x ∷ xs) → IsRising slot_of xs
rising_rest x xs rise i j d lt within = rise (suc i) (suc j) d (omega arith) (omega arith)

pub rising_first : (x : ℕ × ℕ) (xs : List (ℕ × ℕ)) (y : ℕ × ℕ) → IsRising slot_of (x ∷ xs) → Contains xs y → slot_of x < slot_of y
rising_first x xs y rise h = subst (λ (z : ℕ × ℕ). slot_of x < slot_of z) h.2 (rise 0 (suc h.0) y (omega arith) (let lt = h.1 in omega arith))

-- a list whose slots rise is the only one with its elements
one_rising : (xs ys : List (ℕ × ℕ)) → IsRising slot_of xs → IsRising slot_of ys
    → ((p : ℕ × ℕ) → Contains xs p → Contains ys p) → ((p : ℕ × ℕ) → Contains ys p → Contains xs p) → xs ≡ ys
one_rising [] [] rx ry there back = refl
one_rising [] (y ∷ ys) rx ry there back = absurd (in_none y (back y (foremost y ys)))
one_rising (x ∷ xs) [] rx ry there back = absurd (in_none x (there x (foremost x xs)))
one_rising (x ∷ xs) (y ∷ ys) rx ry there back =
    λ i. same i ∷ one_rising xs ys (rising_rest x xs rx) (rising_rest y ys ry) (λ p h. on p h (among y ys p (there p (further x xs p h))))
    (λ p h. under p h (among x xs p (back p (further y ys p h)))) i
  where
    first : (y ≡ x) ⊎ Contains ys x → (x ≡ y) ⊎ Contains xs y → x ≡ y
    first (inl e) b = sym e
    first (inr a) (inl e) = e
    first (inr a) (inr b) = let l = rising_first y ys x ry a in let g = rising_first x xs y rx b in absurd (omega arith)

    same : x ≡ y
    same = first (among y ys x (there x (foremost x xs))) (among x xs y (back y (foremost y ys)))

    on : (p : ℕ × ℕ) → Contains xs p → (y ≡ p) ⊎ Contains ys p → Contains ys p
    on p h (inl e) =
        let lt = rising_first x xs p rx h in
        let eq : slot_of x ≡ slot_of p = ap slot_of (same ∙ e) in absurd (omega arith)
    on p h (inr c) = c

    under : (p : ℕ × ℕ) → Contains ys p → (x ≡ p) ⊎ Contains xs p → Contains xs p
    under p h (inl e) =
        let lt = rising_first y ys p ry h in
        let eq : slot_of y ≡ slot_of p = ap slot_of (sym same ∙ e) in absurd (omega arith)
    under p h (inr c) = c

-- the slots of pairs rise
pairs_rise : (known : PointRow) (table : Readings) → T (rows.is_sorted key_cmp table) → IsRising slot_of (pairs known table)
pairs_rise known [] sorted = λ i j d lt within. absurd (omega arith)
pairs_rise known (x ∷ table) sorted =
    by (pair known x) refl (pairs_rise known table (second_of_two (rows.below_all key_cmp x.0 table) _ sorted))
  where
    by : (o : Option (ℕ × ℕ)) → pair known x ≡ o → IsRising slot_of (pairs known table) → IsRising slot_of (cons_option o (pairs known table))
    by None e rest = rest
    by (Some p) e rest =
        let is = pair_so known x p.0 p.1 e in
        rising_more p (pairs known table)
        (λ y h. let lt = above known x.0 table y.0 y.1 is.of_point (first_of_two _ _ sorted) h in let s = is.in_slot in omega arith)
        rest

-- ---- totals

-- the slots that count are listed in their order
pub by_slot : (before : History) (known : PointRow) → AreBySlot before known (pairs known (kept_readings before))
by_slot before known = record {
  rise = pairs_rise known (kept_readings before) (kept_sorted before);
  are = λ slot number. (
    (λ h.
        let of = found known (kept_readings before) slot number (kept_sorted before) h in
        record { reading = of.reading; stands = of.stands; counted = of.counted; reads = of.reads }),
    (λ c. has known (kept_readings before) slot number (record { reading = c.reading; stands = c.stands; counted = c.counted; reads = c.reads })),
  );
}

-- in one list only
pub one_by_slot : (before : History) (known : PointRow) (listed : List (ℕ × ℕ)) → AreBySlot before known listed → listed ≡ pairs known (kept_readings before)
one_by_slot before known listed are =
    let own = by_slot before known in
    one_rising listed (pairs known (kept_readings before)) are.rise own.rise
    (λ p h. (own.are p.0 p.1).1 ((are.are p.0 p.1).0 h))
    (λ p h. (are.are p.0 p.1).1 ((own.are p.0 p.1).0 h))

-- a total is the sum of the steps between them
pub total_by_slot : (before : History) (known : PointRow) (listed : List (ℕ × ℕ)) → AreBySlot before known listed
    → total before known ≡ sum_of_steps known.point.roll (numbers_of listed)
total_by_slot before known listed are =
    ap (steps known.point.roll) (pair_numbers known (kept_readings before))
    ∙ steps_summed known.point.roll (numbers_of (pairs known (kept_readings before)))
    ∙ ap (λ l. sum_of_steps known.point.roll (numbers_of l)) (sym (one_by_slot before known listed are))
