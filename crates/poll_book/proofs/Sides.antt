-- The numbers of a point's readings on either side of a slot, and with a reading put there.
use Rattle.std.proofs.Common.{◌≡◌, ◌≢◌, ℕ, ◌<◌, ◌≤◌, Bool, true, false, cond, eqb, ltb, T, [], ◌∷◌, ◌++◌, filter, Option, Some, None, refl, sym, ap, ◌∙◌, arith, append-nil}
use Rattle.std.specs.Prelude.{All, ◌&&◌}
use Rattle.std.specs.List.{cons_option}
use Rattle.std.specs.Ordering.{is_lt, is_eq, nat_cmp, ordering_then}
use Rattle.std.specs.Cmp.{nat_cmp_is, tied_itself}
use Rattle.std.specs.declared.cmp.Ordering.{Ordering}
use Rattle.std.specs.declared.cmp.Ordering.TheVariants.{Less, Equal, Greater}
use Rattle.std.specs.FinMap.Entries as rows
use Rattle.std.proofs.lemmas.Bool.{eqb-true, eq-eqb, ne_eqb}
use Rattle.std.proofs.lemmas.Bool.Decides.{nat_tests}
use Rattle.std.proofs.lemmas.Cmp.{ranked}
use Rattle.std.proofs.lemmas.Option.{none-some, same_Some}
use Rattle.std.proofs.lemmas.List.Elements.{All-head, All-tail, All-cons, All-nil, All-weaker, All-append, filter-append, filter_map-append}
use Rattle.poll_book.specs.declared.rows.PointRow.{PointRow}
use Rattle.poll_book.specs.declared.rows.Reading.{Reading}
use Rattle.poll_book.specs.Tables.{AreByKey, Key, key_cmp, Readings, reading_at, with_row}
use Rattle.poll_book.specs.Totals.{counted_number, counted_numbers, numbers_after, numbers_before, reading_number}
use Rattle.poll_book.proofs.Entries.{put_after, put_first}
use Rattle.poll_book.proofs.Puts.{IsAbove, IsBelow}
use Rattle.poll_book.proofs.Tabled.{exact_keys, keys_total}

-- the number that a row gives to a point
abbrev number_to : PointRow → Key × Reading → Option ℕ
number_to known row = cond (eqb row.0.0 known.number && row.1.counted) (counted_number known.point row.1.words) None

pub counted-append : (known : PointRow) (xs ys : Readings) → counted_numbers known (xs ++ ys) ≡ counted_numbers known xs ++ counted_numbers known ys
counted-append known xs ys = filter_map-append (number_to known) xs ys

-- a row of another point gives none, and one of the point its reading's
none_of_other : (known : PointRow) (row : Key × Reading) → row.0.0 ≢ known.number → number_to known row ≡ None
none_of_other known row other = ap (λ b. cond (b && row.1.counted) (counted_number known.point row.1.words) None) (ne_eqb row.0.0 known.number other)

own_number : (known : PointRow) (slot : ℕ) (reading : Reading) → number_to known ((known.number, slot), reading) ≡ reading_number known.point reading
own_number known slot reading = ap (λ b. cond (b && reading.counted) (counted_number known.point reading.words) None) (eq-eqb known.number known.number refl)

-- ---- a test of rows that the point's rows all pass, or none does
module _ (known : PointRow) (test : Key × Reading → Bool) where
  abbrev Answers : Bool → Key × Reading → Type 0
  Answers answer row = row.0.0 ≡ known.number → test row ≡ answer

  pub all_kept : (xs : Readings) → All (Answers true) xs → counted_numbers known (filter test xs) ≡ counted_numbers known xs
  all_kept [] h = refl
  all_kept (x ∷ xs) h = by (test x) (eqb x.0.0 known.number) refl refl (all_kept xs (All-tail (Answers true) x xs h))
    where
      by : (kept own : Bool) → test x ≡ kept → eqb x.0.0 known.number ≡ own → counted_numbers known (filter test xs) ≡ counted_numbers known xs
          → counted_numbers known (cond kept (x ∷ filter test xs) (filter test xs)) ≡ counted_numbers known (x ∷ xs)
      by true own is_kept is_own rest = ap (cons_option (number_to known x)) rest
      by false true is_kept is_own rest = let passes = All-head (Answers true) x xs h (eqb-true _ _ is_own) in absurd (cc)
      by false false is_kept is_own rest =
          rest ∙ ap (λ b. cons_option (cond (b && x.1.counted) (counted_number known.point x.1.words) None) (counted_numbers known xs)) (sym is_own)

  pub none_kept : (xs : Readings) → All (Answers false) xs → counted_numbers known (filter test xs) ≡ []
  none_kept [] h = refl
  none_kept (x ∷ xs) h = by (test x) (eqb x.0.0 known.number) refl refl (none_kept xs (All-tail (Answers false) x xs h))
    where
      by : (kept own : Bool) → test x ≡ kept → eqb x.0.0 known.number ≡ own → counted_numbers known (filter test xs) ≡ []
          → counted_numbers known (cond kept (x ∷ filter test xs) (filter test xs)) ≡ []
      by false own is_kept is_own rest = rest
      by true true is_kept is_own rest = let fails = All-head (Answers false) x xs h (eqb-true _ _ is_own) in absurd (cc)
      by true false is_kept is_own rest =
          ap (λ b. cons_option (cond (b && x.1.counted) (counted_number known.point x.1.words) None) (counted_numbers known (filter test xs))) is_own ∙ rest

-- ---- rows below and above a key, in the point's slots
ltb_yes : (a b : ℕ) → a < b → ltb a b ≡ true
ltb_yes a b lt = grind (arith, nat_tests)

ltb_no : (a b : ℕ) → b ≤ a → ltb a b ≡ false
ltb_no a b le = grind (arith, nat_tests)

-- where a list parts at the point's slot, its numbers before and after the slot are those of the two parts
module _ (known : PointRow) (slot : ℕ) where
  abbrev pub IsLower : Key × Reading → Type 0
  IsLower row = row.0.0 ≡ known.number → row.0.1 < slot

  abbrev pub IsHigher : Key × Reading → Type 0
  IsHigher row = row.0.0 ≡ known.number → slot < row.0.1

  abbrev pub IsNotLower : Key × Reading → Type 0
  IsNotLower row = row.0.0 ≡ known.number → slot ≤ row.0.1

  abbrev pub IsNotHigher : Key × Reading → Type 0
  IsNotHigher row = row.0.0 ≡ known.number → row.0.1 ≤ slot

  pub before_parts : (lows highs : Readings) → All IsLower lows → All IsNotLower highs → numbers_before known slot (lows ++ highs) ≡ counted_numbers known lows
  before_parts lows highs low high =
      let test = λ (row : Key × Reading). ltb row.0.1 slot in
      ap (counted_numbers known) (filter-append test lows highs)
      ∙ counted-append known (filter test lows) (filter test highs)
      ∙ ap (λ l. counted_numbers known (filter test lows) ++ l) (none_kept known test highs (All-weaker IsNotLower (Answers known test false) (λ row is own. ltb_no row.0.1 slot (is own)) highs high))
      ∙ append-nil (counted_numbers known (filter test lows))
      ∙ all_kept known test lows (All-weaker IsLower (Answers known test true) (λ row is own. ltb_yes row.0.1 slot (is own)) lows low)

  pub after_parts : (lows highs : Readings) → All IsNotHigher lows → All IsHigher highs → numbers_after known slot (lows ++ highs) ≡ counted_numbers known highs
  after_parts lows highs low high =
      let test = λ (row : Key × Reading). ltb slot row.0.1 in
      ap (counted_numbers known) (filter-append test lows highs)
      ∙ counted-append known (filter test lows) (filter test highs)
      ∙ ap (λ l. l ++ counted_numbers known (filter test highs)) (none_kept known test lows (All-weaker IsNotHigher (Answers known test false) (λ row is own. ltb_no slot row.0.1 (is own)) lows low))
      ∙ all_kept known test highs (All-weaker IsHigher (Answers known test true) (λ row is own. ltb_yes slot row.0.1 (is own)) highs high)

-- ---- where a key that a table lacks would go

pub both_left : (a b : Bool) → T (a && b) → T a
both_left true b p = tt
both_left false b p = absurd p

pub both_right : (a b : Bool) → T (a && b) → T b
both_right true b p = p
both_right false b p = absurd p

pub is_less : (o : Ordering) → T (is_lt o) → o ≡ Less
is_less Less p = refl
is_less Equal p = absurd p
is_less Greater p = absurd p

-- rows above a row are above what is below it
pub all_above : (key x : Key) (es : Readings) → key_cmp key x ≡ Less → T (rows.below_all key_cmp x es) → All (IsAbove key) es
all_above key x [] lt h = All-nil (IsAbove key)
all_above key x (e ∷ es) lt h =
    All-cons (IsAbove key) e es (keys_total.trans key x e.0 lt (is_less (key_cmp x e.0) (both_left _ _ h))) (all_above key x es lt (both_right _ _ h))

-- so are those above one that has the key, and a key is found in none that is above it
pub all_higher : (key x : Key) (es : Readings) → key ≡ x → T (rows.below_all key_cmp x es) → All (IsAbove key) es
all_higher key x [] same h = All-nil (IsAbove key)
all_higher key x (e ∷ es) same h =
    All-cons (IsAbove key) e es (ap (λ k. key_cmp k e.0) same ∙ is_less (key_cmp x e.0) (both_left _ _ h)) (all_higher key x es same (both_right _ _ h))

none_behind : (key : Key) (es : Readings) → All (IsAbove key) es → reading_at es key ≡ None
none_behind key [] h = refl
none_behind key (e ∷ es) h = ap (λ o. cond (is_eq o) (Some e.1) (reading_at es key)) (All-head (IsAbove key) e es h) ∙ none_behind key es (All-tail (IsAbove key) e es h)

put_same : (key : Key) (reading there : Reading) (es : Readings) → with_row key reading ((key, there) ∷ es) ≡ (key, reading) ∷ es
put_same key reading there es = ap (λ o. rows.by_order o ((key, reading) ∷ (key, there) ∷ es) ((key, reading) ∷ es) ((key, there) ∷ with_row key reading es)) (tied_itself keys_total key)

append_one : (xs : Readings) (x : Key × Reading) (ys : Readings) → xs ++ x ∷ ys ≡ (xs ++ x ∷ []) ++ ys
append_one [] x ys = refl
append_one (y ∷ xs) x ys = ap (λ l. y ∷ l) (append_one xs x ys)

-- the rows below a key, and those above it
record Parts (key : Key) (table : Readings) : Type 0 where
  lows : Readings
  highs : Readings
  whole : table ≡ lows ++ highs
  low : All (IsBelow key) lows
  high : All (IsAbove key) highs

parts : (key : Key) (table : Readings) → AreByKey table → reading_at table key ≡ None → Parts key table
parts key [] sorted none = record { lows = []; highs = []; whole = refl; low = All-nil (IsBelow key); high = All-nil (IsAbove key) }
parts key (e ∷ es) sorted none = by (key_cmp key e.0) refl none (parts key es (both_right _ _ sorted))
  where
    by : (o : Ordering) → key_cmp key e.0 ≡ o → cond (is_eq o) (Some e.1) (reading_at es key) ≡ None → (reading_at es key ≡ None → Parts key es) → Parts key (e ∷ es)
    by Less at n rest = record {
      lows = [];
      highs = e ∷ es;
      whole = refl;
      low = All-nil (IsBelow key);
      high = All-cons (IsAbove key) e es at (all_above key e.0 es at (both_left _ _ sorted));
    }
    by Equal at n rest = absurd (cc)
    by Greater at n rest =
        let deeper = rest n in
        record {
          lows = e ∷ deeper.lows;
          highs = deeper.highs;
          whole = ap (λ l. e ∷ l) deeper.whole;
          low = All-cons (IsBelow key) e deeper.lows at deeper.low;
          high = deeper.high;
        }

-- a row of the point below the key, or above it, has a slot before it, or after it
lower_is : (number slot : ℕ) (k : Key) → key_cmp (number, slot) k ≡ Greater → k.0 ≡ number → k.1 < slot
lower_is number slot k at own =
    ranked slot k.1 Greater (sym (ap (λ o. ordering_then o (nat_cmp slot k.1)) (nat_cmp_is number k.0 Equal (sym own)) ∙ at))

pub higher_is : (number slot : ℕ) (k : Key) → key_cmp (number, slot) k ≡ Less → k.0 ≡ number → slot < k.1
higher_is number slot k at own =
    ranked slot k.1 Less (sym (ap (λ o. ordering_then o (nat_cmp slot k.1)) (nat_cmp_is number k.0 Equal (sym own)) ∙ at))

module _ (known : PointRow) (slot : ℕ) (table : Readings) (sorted : AreByKey table) (none : reading_at table (known.number, slot) ≡ None) where
  at : Parts (known.number, slot) table
  at = parts (known.number, slot) table sorted none

  low : All (IsLower known slot) at.lows
  low = All-weaker (IsBelow (known.number, slot)) (IsLower known slot) (λ row is own. lower_is known.number slot row.0 is own) at.lows at.low

  high : All (IsHigher known slot) at.highs
  high = All-weaker (IsAbove (known.number, slot)) (IsHigher known slot) (λ row is own. higher_is known.number slot row.0 is own) at.highs at.high

  before_is : numbers_before known slot table ≡ counted_numbers known at.lows
  before_is =
      ap (numbers_before known slot) at.whole
      ∙ before_parts known slot at.lows at.highs low (All-weaker (IsHigher known slot) (IsNotLower known slot) (λ row is own. let above = is own in omega arith) at.highs high)

  after_is : numbers_after known slot table ≡ counted_numbers known at.highs
  after_is =
      ap (numbers_after known slot) at.whole
      ∙ after_parts known slot at.lows at.highs (All-weaker (IsLower known slot) (IsNotHigher known slot) (λ row is own. let below = is own in omega arith) at.lows low) high

  -- the point's numbers are those before the slot and those after it
  pub numbers_apart : counted_numbers known table ≡ numbers_before known slot table ++ numbers_after known slot table
  numbers_apart =
      ap (counted_numbers known) at.whole ∙ counted-append known at.lows at.highs
      ∙ ap (λ l. l ++ counted_numbers known at.highs) (sym before_is)
      ∙ ap (λ l. numbers_before known slot table ++ l) (sym after_is)

  -- and where a reading is put into the slot, its number comes between them
  pub numbers_with : (reading : Reading)
      → counted_numbers known (with_row (known.number, slot) reading table)
      ≡ numbers_before known slot table ++ cons_option (reading_number known.point reading) (numbers_after known slot table)
  numbers_with reading =
      let key : Key = (known.number, slot) in
      let put : with_row key reading table ≡ at.lows ++ (key, reading) ∷ at.highs =
      ap (rows.put key_cmp key reading) at.whole ∙ put_after key_cmp key reading at.lows at.highs at.low ∙ ap (λ l. at.lows ++ l) (put_first key_cmp key reading at.highs at.high) in
      ap (counted_numbers known) put ∙ counted-append known at.lows ((key, reading) ∷ at.highs)
      ∙ ap (λ o. counted_numbers known at.lows ++ cons_option o (counted_numbers known at.highs)) (own_number known slot reading)
      ∙ ap (λ l. l ++ cons_option (reading_number known.point reading) (counted_numbers known at.highs)) (sym before_is)
      ∙ ap (λ l. numbers_before known slot table ++ cons_option (reading_number known.point reading) l) (sym after_is)

-- ---- where a key stands in a table

-- the row of a key, between the rows below it and those above it
record Whole (key : Key) (there : Reading) (table : Readings) : Type 0 where
  lows : Readings
  highs : Readings
  whole : table ≡ lows ++ (key, there) ∷ highs
  low : All (IsBelow key) lows
  high : All (IsAbove key) highs

whole_of : (key : Key) (there : Reading) (table : Readings) → AreByKey table → reading_at table key ≡ Some there → Whole key there table
whole_of key there [] sorted found = absurd (none-some there found)
whole_of key there (e ∷ es) sorted found = by (key_cmp key e.0) refl found (whole_of key there es (both_right _ _ sorted))
  where
    by : (o : Ordering) → key_cmp key e.0 ≡ o → cond (is_eq o) (Some e.1) (reading_at es key) ≡ Some there → (reading_at es key ≡ Some there → Whole key there es) → Whole key there (e ∷ es)
    by Less is n rest = absurd (none-some there (sym (none_behind key es (all_above key e.0 es is (both_left _ _ sorted))) ∙ n))
    by Equal is n rest =
        let same : key ≡ e.0 = exact_keys key e.0 is in
        record {
          lows = [];
          highs = es;
          whole = λ i. (sym same i, same_Some e.1 there n i) ∷ es;
          low = All-nil (IsBelow key);
          high = all_higher key e.0 es same (both_left _ _ sorted);
        }
    by Greater is n rest =
        let deeper = rest n in
        record {
          lows = e ∷ deeper.lows;
          highs = deeper.highs;
          whole = ap (λ l. e ∷ l) deeper.whole;
          low = All-cons (IsBelow key) e deeper.lows is deeper.low;
          high = deeper.high;
        }

module _ (known : PointRow) (slot : ℕ) (there : Reading) (table : Readings) (sorted : AreByKey table) (found : reading_at table (known.number, slot) ≡ Some there) where
  stands : Whole (known.number, slot) there table
  stands = whole_of (known.number, slot) there table sorted found

  lower : All (IsLower known slot) stands.lows
  lower = All-weaker (IsBelow (known.number, slot)) (IsLower known slot) (λ row is own. lower_is known.number slot row.0 is own) stands.lows stands.low

  higher : All (IsHigher known slot) stands.highs
  higher = All-weaker (IsAbove (known.number, slot)) (IsHigher known slot) (λ row is own. higher_is known.number slot row.0 is own) stands.highs stands.high

  numbers_below : numbers_before known slot table ≡ counted_numbers known stands.lows
  numbers_below =
      let row : Key × Reading = ((known.number, slot), there) in
      ap (numbers_before known slot) stands.whole
      ∙ before_parts known slot stands.lows (row ∷ stands.highs) lower
      (All-cons (IsNotLower known slot) row stands.highs (λ own. omega arith) (All-weaker (IsHigher known slot) (IsNotLower known slot) (λ row is own. let above = is own in omega arith) stands.highs higher))

  numbers_above : numbers_after known slot table ≡ counted_numbers known stands.highs
  numbers_above =
      let row : Key × Reading = ((known.number, slot), there) in
      ap (numbers_after known slot) stands.whole
      ∙ ap (λ l. numbers_after known slot l) (append_one stands.lows row stands.highs)
      ∙ after_parts known slot (stands.lows ++ row ∷ []) stands.highs
      (All-append (IsNotHigher known slot) stands.lows (row ∷ []) (All-weaker (IsLower known slot) (IsNotHigher known slot) (λ row is own. let below = is own in omega arith) stands.lows lower)
      (All-cons (IsNotHigher known slot) row [] (λ own. omega arith) (All-nil (IsNotHigher known slot)))) higher

  -- the point's numbers where a reading stands in the slot
  numbers_of_parts : (reading : Reading) → counted_numbers known (stands.lows ++ ((known.number, slot), reading) ∷ stands.highs)
      ≡ numbers_before known slot table ++ cons_option (reading_number known.point reading) (numbers_after known slot table)
  numbers_of_parts reading =
      counted-append known stands.lows (((known.number, slot), reading) ∷ stands.highs)
      ∙ ap (λ o. counted_numbers known stands.lows ++ cons_option o (counted_numbers known stands.highs)) (own_number known slot reading)
      ∙ ap (λ l. l ++ cons_option (reading_number known.point reading) (counted_numbers known stands.highs)) (sym numbers_below)
      ∙ ap (λ l. numbers_before known slot table ++ cons_option (reading_number known.point reading) l) (sym numbers_above)

  pub numbers_there : counted_numbers known table ≡ numbers_before known slot table ++ cons_option (reading_number known.point there) (numbers_after known slot table)
  numbers_there = ap (counted_numbers known) stands.whole ∙ numbers_of_parts there

  -- and where another is written over it
  pub numbers_over : (reading : Reading) → counted_numbers known (with_row (known.number, slot) reading table)
      ≡ numbers_before known slot table ++ cons_option (reading_number known.point reading) (numbers_after known slot table)
  numbers_over reading =
      let key : Key = (known.number, slot) in
      ap (λ l. counted_numbers known (with_row key reading l)) stands.whole
      ∙ ap (counted_numbers known) (put_after key_cmp key reading stands.lows ((key, there) ∷ stands.highs) stands.low ∙ ap (λ l. stands.lows ++ l) (put_same key reading there stands.highs))
      ∙ numbers_of_parts reading

-- a reading of another point gives the point no number
pub numbers_of_other : (known : PointRow) (key : Key) (reading : Reading) (table : Readings) → key.0 ≢ known.number
    → counted_numbers known (with_row key reading table) ≡ counted_numbers known table
numbers_of_other known key reading [] other = ap (λ o. cons_option o []) (none_of_other known (key, reading) other)
numbers_of_other known key reading (e ∷ es) other = by (key_cmp key e.0) refl (numbers_of_other known key reading es other)
  where
    by : (o : Ordering) → key_cmp key e.0 ≡ o → counted_numbers known (with_row key reading es) ≡ counted_numbers known es
        → counted_numbers known (rows.by_order o ((key, reading) ∷ e ∷ es) ((e.0, reading) ∷ es) (e ∷ with_row key reading es)) ≡ counted_numbers known (e ∷ es)
    by Less is rest = ap (λ o. cons_option o (counted_numbers known (e ∷ es))) (none_of_other known (key, reading) other)
    by Equal is rest =
        let same : key ≡ e.0 = exact_keys key e.0 is in
        let apart : e.0.0 ≢ known.number = λ own. other (ap (λ (k : Key). k.0) same ∙ own) in
        ap (λ o. cons_option o (counted_numbers known es)) (none_of_other known (e.0, reading) apart ∙ sym (none_of_other known e apart))
    by Greater is rest = ap (cons_option (number_to known e)) rest
