-- The orders that wait: the oldest of a device among them, and which of them wait once an order comes or is settled.
use Rattle.std.proofs.Common.{◌≡◌, ℕ, ◌+◌, ◌<◌, List, [], ◌∷◌, ◌++◌, map, Bool, true, false, not, cond, Some, None, refl, sym, ap, subst, ◌∙◌, arith, T, find, take, drop, length, get_or}
use Rattle.std.specs.Option.{option_or}
use Rattle.std.specs.Prelude.{◌&&◌, ◌==◌}
use Rattle.std.specs.List.{AllByRecursion, filter}
use Rattle.std.specs.FinMap.Entries as rows
use Rattle.std.specs.Cmp.{nat_cmp_total}
use Rattle.std.specs.declared.cmp.Ordering.{Ordering}
use Rattle.std.specs.declared.cmp.Ordering.TheVariants.{Less, Equal, Greater}
use Rattle.std.specs.Ordering.{nat_cmp, is_lt}
use Rattle.std.proofs.lemmas.Bool.Decides.{nat_tests}
use Rattle.std.proofs.lemmas.List.{map-append, take-append-drop, take_more}
use Rattle.std.proofs.lemmas.List.Folds.{find-append}
use Rattle.std.proofs.lemmas.Map.Lookups.{exact_unsigned}
use Rattle.poll_book.specs.declared.rows.PointRow.{PointRow}
use Rattle.poll_book.specs.declared.rows.Setting.{Setting}
use Rattle.poll_book.specs.declared.rows.SettingRow.{SettingRow}
use Rattle.poll_book.specs.Changes.{IsNextOrSettledAs}
use Rattle.poll_book.specs.Orders.{Settings, as_setting, is_of, is_waiting, last_order, oldest_waiting, point_at, with_setting}
use Rattle.office_store.specs.declared.waiting.WaitingOrder.{WaitingOrder}
use Rattle.office_store.specs.Waiting.{AreByNumber, AreThose, entry_of, is_other, not_looked_up, waits, waiting_of}
use Rattle.office_store.proofs.Appending.{below_next, less_is, put_last}
use Rattle.office_store.proofs.Settling.{greater_is}
use Rattle.office_store.proofs.Sorted.{all_map, both_T, each_above}

-- ---- the oldest of a device

find_of_both : {X : Type 0} (p q : X → Bool) (xs : List X) → find (λ x. p x && q x) xs ≡ find q (filter p xs)
find_of_both p q [] = refl
find_of_both p q (x ∷ xs) = step (p x) (find_of_both p q xs)
  where
    step : (b : Bool) → find (λ y. p y && q y) xs ≡ find q (filter p xs) → cond (b && q x) (Some x) (find (λ y. p y && q y) xs) ≡ find q (cond b (x ∷ filter p xs) (filter p xs))
    step true rest = ap (λ o. cond (q x) (Some x) o) rest
    step false rest = rest

-- the first of those that wait whose point is of the device
pub oldest_is : (points : List PointRow) (device : List ℕ) (table : Settings) → oldest_waiting points device table ≡ find (λ row. is_of device (point_at points row.1.point)) (waiting_of table)
oldest_is points device table = find_of_both waits (λ row. is_of device (point_at points row.1.point)) table

-- ---- an order that comes

filter_append : {X : Type 0} (p : X → Bool) (xs ys : List X) → filter p (xs ++ ys) ≡ filter p xs ++ filter p ys
filter_append p [] ys = refl
filter_append p (x ∷ xs) ys = step (p x) (filter_append p xs ys)
  where
    step : (b : Bool) → filter p (xs ++ ys) ≡ filter p xs ++ filter p ys → cond b (x ∷ filter p (xs ++ ys)) (filter p (xs ++ ys)) ≡ cond b (x ∷ filter p xs) (filter p xs) ++ filter p ys
    step true rest = ap (λ zs. x ∷ zs) rest
    step false rest = rest

-- the next order waits behind the others
comes : (n : ℕ) (s : Setting) (table : Settings) → T (rows.is_sorted nat_cmp table) → n ≡ last_order table + 1 → is_waiting s.state ≡ true → waiting_of (with_setting n s table) ≡ waiting_of table ++ (n, s) ∷ []
comes n s table sorted next waiting =
    let low = subst (λ k. AllByRecursion (λ e. e.0 < k) table) (sym next) (below_next table sorted) in
    ap waiting_of (put_last n s table low) ∙ filter_append waits table ((n, s) ∷ []) ∙ ap (λ b. waiting_of table ++ cond b ((n, s) ∷ []) []) waiting

-- ---- an order that is settled

module _ (n : ℕ) (s : Setting) (settled : is_waiting s.state ≡ false) where
  abbrev pub others : ℕ × Setting → Bool
  others row = not (row.0 == n)

  -- all numbers are other ones
  untouched : (es : Settings) → AllByRecursion (λ e. n < e.0) es → filter others (waiting_of es) ≡ waiting_of es
  untouched [] h = refl
  untouched (e ∷ es) h =
      let apart : others e ≡ true = (let above = h.0 in grind (arith, nat_tests)) in
      step (waits e) apart (untouched es h.1)
    where
      step : (b : Bool) → others e ≡ true → filter others (waiting_of es) ≡ waiting_of es → filter others (cond b (e ∷ waiting_of es) (waiting_of es)) ≡ cond b (e ∷ waiting_of es) (waiting_of es)
      step true apart rest = rw apart (ap (λ zs. e ∷ zs) rest)
      step false apart rest = rest

  above : (k : ℕ) (es : Settings) → T (rows.below_all nat_cmp k es) → AllByRecursion (λ e. k < e.0) es
  above k es h = all_map (λ e below. less_is k e.0 (ap is_lt below)) es (each_above nat_cmp nat_cmp_total k es h)

  -- it leaves the others
  goes : (es : Settings) → T (rows.is_sorted nat_cmp es) → waiting_of (with_setting n s es) ≡ filter others (waiting_of es)
  goes [] sorted = ap (λ b. cond b ((n, s) ∷ []) []) settled
  goes (e ∷ es) sorted = by (nat_cmp n e.0) refl (goes es both.1)
    where
      both : T (rows.below_all nat_cmp e.0 es) × T (rows.is_sorted nat_cmp es)
      both = both_T _ _ sorted

      keeps : (b : Bool) → others e ≡ true → waiting_of (with_setting n s es) ≡ filter others (waiting_of es)
          → cond b (e ∷ waiting_of (with_setting n s es)) (waiting_of (with_setting n s es)) ≡ filter others (cond b (e ∷ waiting_of es) (waiting_of es))
      keeps true apart rest = rw apart (ap (λ zs. e ∷ zs) rest)
      keeps false apart rest = rest

      drops : (b : Bool) → others e ≡ false → filter others (waiting_of es) ≡ waiting_of es → waiting_of es ≡ filter others (cond b (e ∷ waiting_of es) (waiting_of es))
      drops true same rest = rw same (sym rest)
      drops false same rest = sym rest

      by : (o : Ordering) → nat_cmp n e.0 ≡ o → waiting_of (with_setting n s es) ≡ filter others (waiting_of es)
          → waiting_of (rows.by_order o ((n, s) ∷ e ∷ es) ((e.0, s) ∷ es) (e ∷ with_setting n s es)) ≡ filter others (waiting_of (e ∷ es))
      by Less is rest =
          let low = less_is n e.0 (ap is_lt is) in
          let all : AllByRecursion (λ x. n < x.0) (e ∷ es) = (low, all_map (λ x high. omega (arith, low, high)) es (above e.0 es both.0)) in
          ap (λ b. cond b ((n, s) ∷ waiting_of (e ∷ es)) (waiting_of (e ∷ es))) settled ∙ sym (untouched (e ∷ es) all)
      by Equal is rest =
          let same = exact_unsigned n e.0 is in
          let it : others e ≡ false = grind (arith, nat_tests) in
          let higher = subst (λ k. AllByRecursion (λ x. k < x.0) es) (sym same) (above e.0 es both.0) in
          ap (λ b. cond b ((e.0, s) ∷ waiting_of es) (waiting_of es)) settled ∙ drops (waits e) it (untouched es higher)
      by Greater is rest =
          let low = greater_is n e.0 is in
          let apart : others e ≡ true = grind (arith, nat_tests) in
          keeps (waits e) apart rest

-- ---- the orders that were read, one after the other

module _ (test : ℕ × Setting → Bool) (entries : Settings) where
  first_next : (row : ℕ × Setting) (ys : Settings) → find test ys ≡ None → find test (ys ++ row ∷ []) ≡ cond (test row) (Some row) None
  first_next row ys none = find-append test ys (row ∷ []) ∙ ap (λ o. option_or o (cond (test row) (Some row) None)) none

  -- none so far, and this one isn't it
  pub none_more : (i : ℕ) (d : ℕ × Setting) → i < length entries → find test (take i entries) ≡ None → test (get_or entries i d) ≡ false → find test (take (i + 1) entries) ≡ None
  none_more i d low none fails =
      ap (find test) (take_more entries i d low) ∙ first_next (get_or entries i d) (take i entries) none ∙ ap (λ b. cond b (Some (get_or entries i d)) None) fails

  stays : (row : ℕ × Setting) (ys zs : Settings) → find test ys ≡ Some row → find test (ys ++ zs) ≡ Some row
  stays row ys zs found = find-append test ys zs ∙ ap (λ o. option_or o (find test zs)) found

  -- none before this one, which is it
  pub first_is : (i : ℕ) (d : ℕ × Setting) → i < length entries → find test (take i entries) ≡ None → test (get_or entries i d) ≡ true → find test entries ≡ Some (get_or entries i d)
  first_is i d low none passes =
      let row = get_or entries i d in
      let here = ap (find test) (take_more entries i d low) ∙ first_next row (take i entries) none ∙ ap (λ b. cond b (Some row) None) passes in
      ap (find test) (sym (take-append-drop (i + 1) entries)) ∙ stays row (take (i + 1) entries) (drop (i + 1) entries) here

-- ---- the orders that were read, once one came or was settled

map_others : (n : ℕ) (orders : List WaitingOrder) → map entry_of (filter (is_other n) orders) ≡ filter (λ e. not (e.0 == n)) (map entry_of orders)
map_others n [] = refl
map_others n (x ∷ xs) = step (is_other n x) (map_others n xs)
  where
    step : (b : Bool) → map entry_of (filter (is_other n) xs) ≡ filter (λ e. not (e.0 == n)) (map entry_of xs)
        → map entry_of (cond b (x ∷ filter (is_other n) xs) (filter (is_other n) xs)) ≡ cond b (entry_of x ∷ filter (λ e. not (e.0 == n)) (map entry_of xs)) (filter (λ e. not (e.0 == n)) (map entry_of xs))
    step true rest = ap (λ zs. entry_of x ∷ zs) rest
    step false rest = rest

module _ (table : Settings) (order : SettingRow) (new : IsNextOrSettledAs (is_waiting order.state) table order) (orders : List WaitingOrder) (read : AreThose table (map entry_of orders)) where
  abbrev after : Settings
  after = with_setting order.number (as_setting order).1 table

  sorted : AreByNumber after
  sorted = rows.is_sorted-put nat_cmp nat_cmp_total order.number (as_setting order).1 table read.0

  pub one_more : is_waiting order.state ≡ true → AreThose after (map entry_of (orders ++ not_looked_up order ∷ []))
  one_more waiting =
      let next = subst (λ b. IsNextOrSettledAs b table order) waiting new in
      let more = map-append entry_of orders (not_looked_up order ∷ []) in
      (sorted, more ∙ ap (λ zs. zs ++ as_setting order ∷ []) read.1 ∙ sym (comes order.number (as_setting order).1 table read.0 next waiting))

  pub one_less : is_waiting order.state ≡ false → AreThose after (map entry_of (filter (is_other order.number) orders))
  one_less settled =
      (sorted, map_others order.number orders ∙ ap (filter (λ e. not (e.0 == order.number))) read.1 ∙ sym (goes order.number (as_setting order).1 settled table read.0))
