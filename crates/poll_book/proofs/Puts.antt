-- Rows put into the list of a point, and into the lists of all points.
use Rattle.std.proofs.Common.{◌≡◌, ℕ, suc, ◌<◌, ◌≢◌, cond, eqb, List, [], ◌∷◌, ◌++◌, get_or, set, take, drop, Some, None, refl, sym, ap, ◌∙◌, arith, append_assoc, append-nil, false, Ok, Err, Result, IfOk, IfErr}
use Rattle.std.specs.Prelude.{All, is_ok, is_some}
use Rattle.std.specs.List.{insert}
use Rattle.std.specs.Ordering.{nat_cmp, ordering_then}
use Rattle.std.specs.Cmp.{nat_cmp_is}
use Rattle.std.specs.declared.cmp.Ordering.TheVariants.{Less, Equal, Greater}
use Rattle.std.specs.FinMap.Entries as rows
use Rattle.std.proofs.Math.Seq.{split_at}
use Rattle.std.proofs.lemmas.List.{set_split, take-append-drop}
use Rattle.std.proofs.lemmas.List.Elements.{All-head, All-tail, All-append, All-weaker, All-nil, All-cons, filter-append}
use Rattle.std.proofs.lemmas.Bool.{ne_eqb, eq-eqb}
use Rattle.poll_book.specs.declared.rows.Reading.{Reading}
use Rattle.poll_book.specs.declared.history.SlotRow.{SlotRow}
use Rattle.poll_book.specs.declared.history.History.{History}
use Rattle.poll_book.specs.Tables.{Key, key_cmp, Readings, reading_at}
use Rattle.poll_book.proofs.Entries as entries
use Rattle.poll_book.specs.Histories.{as_entry, slots_of, slot_of, point_of, readings_of, own, IsAt, IsGap}

-- a row below the key stays before it
abbrev pub IsBelow : Key → Key × Reading → Type 0
IsBelow key row = key_cmp key row.0 ≡ Greater

abbrev pub IsAbove : Key → Key × Reading → Type 0
IsAbove key row = key_cmp key row.0 ≡ Less

-- ---- keys
lower_slot : (p s n : ℕ) → n < s → key_cmp (p, s) (p, n) ≡ Greater
lower_slot p s n lt = ap (λ o. ordering_then o (nat_cmp s n)) (sym (nat_cmp_is p p Equal refl)) ∙ sym (nat_cmp_is s n Greater lt)

higher_slot : (p s n : ℕ) → s < n → key_cmp (p, s) (p, n) ≡ Less
higher_slot p s n lt = ap (λ o. ordering_then o (nat_cmp s n)) (sym (nat_cmp_is p p Equal refl)) ∙ sym (nat_cmp_is s n Less lt)

same_key : (p s n : ℕ) → n ≡ s → key_cmp (p, s) (p, n) ≡ Equal
same_key p s n same = ap (λ o. ordering_then o (nat_cmp s n)) (sym (nat_cmp_is p p Equal refl)) ∙ sym (nat_cmp_is s n Equal (sym same))

lower_point : (p s q n : ℕ) → q < p → key_cmp (p, s) (q, n) ≡ Greater
lower_point p s q n lt = ap (λ o. ordering_then o (nat_cmp s n)) (sym (nat_cmp_is p q Greater lt))

higher_point : (p s q n : ℕ) → p < q → key_cmp (p, s) (q, n) ≡ Less
higher_point p s q n lt = ap (λ o. ordering_then o (nat_cmp s n)) (sym (nat_cmp_is p q Less lt))

-- ---- the rows of a point's slots
slots_below : (p s : ℕ) (xs : List SlotRow) → All (λ x. slot_of x < s) xs → All (λ x. IsBelow (p, s) (as_entry p x)) xs
slots_below p s xs h = All-weaker (λ x. slot_of x < s) (λ x. IsBelow (p, s) (as_entry p x)) (λ x lt. lower_slot p s (slot_of x) lt) xs h

slots_above : (p s : ℕ) (xs : List SlotRow) → All (λ x. s < slot_of x) xs → All (λ x. IsAbove (p, s) (as_entry p x)) xs
slots_above p s xs h = All-weaker (λ x. s < slot_of x) (λ x. IsAbove (p, s) (as_entry p x)) (λ x lt. higher_slot p s (slot_of x) lt) xs h

-- to write over the slot is to put the row
pub put_over : (p s : ℕ) (r : Reading) (l : List SlotRow) (at : ℕ) → IsAt slot_of l s at
    → slots_of p (set l at (record { slot = s; reading = r })) ≡ rows.put key_cmp (p, s) r (slots_of p l)
put_over p s r l at here =
    let row : SlotRow = record { slot = s; reading = r } in
    entries.put_over key_cmp (as_entry p) (p, s) l at (slots_below p s (take at l) here.below) row here.in_range
    (same_key p s (slot_of (get_or l at row)) (here.same row)) (ap (λ n. (p, n)) (here.same row))

-- to insert the slot in its gap is to put the row
pub put_in : (p s : ℕ) (r : Reading) (l : List SlotRow) (at : ℕ) → IsGap slot_of l s at
    → slots_of p (insert l at (record { slot = s; reading = r })) ≡ rows.put key_cmp (p, s) r (slots_of p l)
put_in p s r l at gap =
    entries.put_in key_cmp (as_entry p) (p, s) l at (slots_below p s (take at l) gap.below) (record { slot = s; reading = r }) refl (slots_above p s (drop at l) gap.above)

-- ---- the rows of all points
pub readings-append : (xs ys : List History) → readings_of (xs ++ ys) ≡ readings_of xs ++ readings_of ys
readings-append [] ys = refl
readings-append (x ∷ xs) ys = ap (λ l. slots_of x.point x.slots.items ++ l) (readings-append xs ys) ∙ sym (append_assoc (slots_of x.point x.slots.items) (readings_of xs) (readings_of ys))

-- what holds of each point's rows
all_readings : (P : Key × Reading → Type 0) (Q : ℕ → Type 0) → ((q : ℕ) (x : SlotRow) → Q q → P (as_entry q x)) → (hs : List History) → All (λ h. Q (point_of h)) hs → All P (readings_of hs)
all_readings P Q each [] h = All-nil P
all_readings P Q each (x ∷ hs) h =
    All-append P (slots_of x.point x.slots.items) (readings_of hs)
    (each_slot (λ row. each (point_of x) row (All-head (λ h. Q (point_of h)) x hs h)) x.slots.items)
    (all_readings P Q each hs (All-tail (λ h. Q (point_of h)) x hs h))
  where
    each_slot : ((row : SlotRow) → P (as_entry (point_of x) row)) → (xs : List SlotRow) → All P (slots_of (point_of x) xs)
    each_slot f [] = All-nil P
    each_slot f (y ∷ ys) = All-cons P (as_entry (point_of x) y) (slots_of (point_of x) ys) (f y) (each_slot f ys)

-- the rows of lower points, and of higher ones
points_below : (p s : ℕ) (hs : List History) → All (λ h. point_of h < p) hs → All (IsBelow (p, s)) (readings_of hs)
points_below p s hs h = all_readings (IsBelow (p, s)) (λ q. q < p) (λ q x lt. lower_point p s q (slot_of x) lt) hs h

points_above : (p s : ℕ) (hs : List History) → All (λ h. p < point_of h) hs → All (IsAbove (p, s)) (readings_of hs)
points_above p s hs h = all_readings (IsAbove (p, s)) (λ q. p < q) (λ q x lt. higher_point p s q (slot_of x) lt) hs h

-- to put a row into the point's history is to put it into all rows
pub put_history : (p s : ℕ) (r : Reading) (hs : List History) (at : ℕ) (new : History) → IsAt point_of hs p at → new.point ≡ p
    → slots_of p new.slots.items ≡ rows.put key_cmp (p, s) r (slots_of p (get_or hs at new).slots.items)
    → readings_of (set hs at new) ≡ rows.put key_cmp (p, s) r (readings_of hs)
put_history p s r hs at new here same puts =
    let old = get_or hs at new in
    let low = readings_of (take at hs) in
    let high = readings_of (drop (suc at) hs) in
    let own_new : slots_of new.point new.slots.items ≡ rows.put key_cmp (p, s) r (slots_of old.point old.slots.items) =
    ap (λ q. slots_of q new.slots.items) same ∙ puts ∙ ap (λ q. rows.put key_cmp (p, s) r (slots_of q old.slots.items)) (sym (here.same new)) in
    ap readings_of (set_split hs at new here.in_range)
    ∙ readings-append (take at hs) (new ∷ drop (suc at) hs)
    ∙ ap (λ l. low ++ (l ++ high)) own_new
    ∙ ap (λ l. low ++ l) (sym (entries.put_before key_cmp (p, s) r (slots_of old.point old.slots.items) high (points_above p s (drop (suc at) hs) here.above)))
    ∙ sym (entries.put_after key_cmp (p, s) r low (slots_of old.point old.slots.items ++ high) (points_below p s (take at hs) here.below))
    ∙ ap (rows.put key_cmp (p, s) r) (sym (readings-append (take at hs) (old ∷ drop (suc at) hs)))
    ∙ ap (λ l. rows.put key_cmp (p, s) r (readings_of l)) (sym (split_at hs at new here.in_range))

-- an empty history adds no row
pub readings_insert_empty : (hs : List History) (at : ℕ) (new : History) → new.slots.items ≡ [] → readings_of (insert hs at new) ≡ readings_of hs
readings_insert_empty hs at new empty =
    readings-append (take at hs) (new ∷ drop at hs)
    ∙ ap (λ l. readings_of (take at hs) ++ (slots_of new.point l ++ readings_of (drop at hs))) empty
    ∙ sym (readings-append (take at hs) (drop at hs))
    ∙ ap readings_of (take-append-drop at hs)

-- ---- the rows of one point
abbrev pub IsOther : ℕ → Key × Reading → Type 0
IsOther p row = row.0.0 ≢ p

own_none : (p : ℕ) (xs : Readings) → All (IsOther p) xs → own p xs ≡ []
own_none p [] h = refl
own_none p (x ∷ xs) h = ap (λ b. cond b (x ∷ own p xs) (own p xs)) (ne_eqb x.0.0 p (All-head (IsOther p) x xs h)) ∙ own_none p xs (All-tail (IsOther p) x xs h)

own_all : (p : ℕ) (xs : List SlotRow) → own p (slots_of p xs) ≡ slots_of p xs
own_all p [] = refl
own_all p (x ∷ xs) = ap (λ b. cond b (as_entry p x ∷ own p (slots_of p xs)) (own p (slots_of p xs))) (eq-eqb p p refl) ∙ ap (λ l. as_entry p x ∷ l) (own_all p xs)

own_lower : (p : ℕ) (hs : List History) → All (λ h. point_of h < p) hs → own p (readings_of hs) ≡ []
own_lower p hs h = own_none p (readings_of hs) (all_readings (IsOther p) (λ q. q < p) (λ q x lt same. omega arith) hs h)

own_higher : (p : ℕ) (hs : List History) → All (λ h. p < point_of h) hs → own p (readings_of hs) ≡ []
own_higher p hs h = own_none p (readings_of hs) (all_readings (IsOther p) (λ q. p < q) (λ q x lt same. omega arith) hs h)

own-append : (p : ℕ) (xs ys : Readings) → own p (xs ++ ys) ≡ own p xs ++ own p ys
own-append p xs ys = filter-append (λ row. eqb row.0.0 p) xs ys

pub own_at : (p : ℕ) (hs : List History) (at : ℕ) (d : History) → IsAt point_of hs p at → own p (readings_of hs) ≡ slots_of p (get_or hs at d).slots.items
own_at p hs at d here =
    let here_slots = (get_or hs at d).slots.items in
    let high = drop (suc at) hs in
    ap (λ l. own p (readings_of l)) (split_at hs at d here.in_range)
    ∙ ap (own p) (readings-append (take at hs) (get_or hs at d ∷ high))
    ∙ own-append p (readings_of (take at hs)) (slots_of (point_of (get_or hs at d)) here_slots ++ readings_of high)
    ∙ ap (λ l. l ++ own p (slots_of (point_of (get_or hs at d)) here_slots ++ readings_of high)) (own_lower p (take at hs) here.below)
    ∙ ap (λ q. own p (slots_of q here_slots ++ readings_of high)) (here.same d)
    ∙ own-append p (slots_of p here_slots) (readings_of high)
    ∙ ap (λ l. own p (slots_of p here_slots) ++ l) (own_higher p high here.above)
    ∙ append-nil (own p (slots_of p here_slots))
    ∙ own_all p here_slots

pub own_gap : (p : ℕ) (hs : List History) (at : ℕ) → IsGap point_of hs p at → own p (readings_of hs) ≡ []
own_gap p hs at gap =
    ap (λ l. own p (readings_of l)) (sym (take-append-drop at hs))
    ∙ ap (own p) (readings-append (take at hs) (drop at hs))
    ∙ own-append p (readings_of (take at hs)) (readings_of (drop at hs))
    ∙ ap (λ l. l ++ own p (readings_of (drop at hs))) (own_lower p (take at hs) gap.below)
    ∙ own_higher p (drop at hs) gap.above

-- ---- what stands under a slot
pub find_slot : (p s : ℕ) (l : List SlotRow) (at : ℕ) (d : SlotRow) → IsAt slot_of l s at → rows.find key_cmp (p, s) (slots_of p l) ≡ Some (get_or l at d).reading
find_slot p s l at d here =
    entries.find_here key_cmp (as_entry p) (p, s) l at (slots_below p s (take at l) here.below) d here.in_range (same_key p s (slot_of (get_or l at d)) (here.same d))

pub find_no_slot : (p s : ℕ) (l : List SlotRow) (at : ℕ) → IsGap slot_of l s at → rows.find key_cmp (p, s) (slots_of p l) ≡ None
find_no_slot p s l at gap = entries.find_no_row key_cmp (as_entry p) (p, s) l at (slots_below p s (take at l) gap.below) (slots_above p s (drop at l) gap.above)

-- a search tells whether something stands there
pub has_slot : (p s : ℕ) (l : List SlotRow) (r : Result ℕ ℕ) → IfOk r (IsAt slot_of l s) → IfErr r (IsGap slot_of l s) → is_ok r ≡ is_some (reading_at (slots_of p l) (p, s))
has_slot p s l (Ok at) here gap =
    let blank : SlotRow = record { slot = 0; reading = record { words = []; counted = false } } in
    sym (ap is_some (find_slot p s l at blank here))
has_slot p s l (Err at) here gap = sym (ap is_some (find_no_slot p s l at gap))
