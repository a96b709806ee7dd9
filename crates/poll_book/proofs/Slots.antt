-- The counted numbers among a point's slots: parted at one of them, and before and after a slot.
use Rattle.std.proofs.Common.{◌≡◌, ℕ, suc, ◌<◌, ◌≤◌, Bool, true, false, cond, eqb, List, [], ◌∷◌, ◌++◌, length, get_or, take, drop, filter, Option, Some, None, refl, sym, ap, subst, ◌∙◌, arith}
use Rattle.std.specs.Prelude.{All, ◌&&◌}
use Rattle.std.specs.List.{cons_option}
use Rattle.std.proofs.Math.Seq.{split_at, drop-cons, take-suc}
use Rattle.std.proofs.lemmas.List.{map-append, take-append-drop}
use Rattle.std.proofs.lemmas.List.Elements.{All-append, All-cons, All-map, All-nil, All-weaker, filter_map-append}
use Rattle.poll_book.specs.declared.rows.PointRow.{PointRow}
use Rattle.poll_book.specs.declared.rows.Reading.{Reading}
use Rattle.poll_book.specs.declared.history.SlotRow.{SlotRow}
use Rattle.poll_book.specs.Tables.{Key, Readings}
use Rattle.poll_book.specs.Totals.{counted_number, counted_numbers, first_of, last_of, numbers_after, numbers_before, reading_number}
use Rattle.poll_book.specs.Histories.{IsAt, IsGap, as_entry, counted_in, own, slot_of, slots_of}
use Rattle.poll_book.proofs.Sides.{IsHigher, IsLower, IsNotHigher, IsNotLower, after_parts, before_parts}
use Rattle.poll_book.proofs.Steps.{last-push}
use Rattle.poll_book.proofs.Tabled.{counted_slots}
use Rattle.point_list.specs.declared.point.Point.{Point}

module _ (point : Point) (l : List SlotRow) (i : ℕ) (d : SlotRow) (lt : i < length l) where
  counted_parts : counted_in point l ≡ counted_in point (take i l) ++ cons_option (reading_number point (get_or l i d).reading) (counted_in point (drop (suc i) l))
  counted_parts = ap (counted_in point) (split_at l i d lt) ∙ filter_map-append (λ (row : SlotRow). reading_number point row.reading) (take i l) (get_or l i d ∷ drop (suc i) l)

  -- a number before which none stands is the first
  pub first_here : (n : ℕ) → counted_in point (take i l) ≡ [] → reading_number point (get_or l i d).reading ≡ Some n → Some n ≡ first_of (counted_in point l)
  first_here n none is =
      sym (ap first_of (counted_parts
      ∙ ap (λ xs. xs ++ cons_option (reading_number point (get_or l i d).reading) (counted_in point (drop (suc i) l))) none
      ∙ ap (λ o. cons_option o (counted_in point (drop (suc i) l))) is))

  -- and one after which none stands is the last
  pub last_here : (n : ℕ) → counted_in point (drop (suc i) l) ≡ [] → reading_number point (get_or l i d).reading ≡ Some n → Some n ≡ last_of (counted_in point l)
  last_here n none is =
      sym (ap last_of (counted_parts
      ∙ ap (λ xs. counted_in point (take i l) ++ cons_option (reading_number point (get_or l i d).reading) xs) none
      ∙ ap (λ o. counted_in point (take i l) ++ cons_option o []) is)
      ∙ last-push (counted_in point (take i l)) n)

module _ (known : PointRow) (slot : ℕ) (l : List SlotRow) where
  parted : (at : ℕ) → slots_of known.number l ≡ slots_of known.number (take at l) ++ slots_of known.number (drop at l)
  parted at = ap (slots_of known.number) (sym (take-append-drop at l)) ∙ map-append (as_entry known.number) (take at l) (drop at l)

  -- the numbers before a slot are those up to the place where the slots reach it
  pub before_at : (at : ℕ) → All (λ x. slot_of x < slot) (take at l) → All (λ x. slot ≤ slot_of x) (drop at l)
      → counted_in known.point (take at l) ≡ numbers_before known slot (slots_of known.number l)
  before_at at low high =
      sym (ap (numbers_before known slot) (parted at)
      ∙ before_parts known slot (slots_of known.number (take at l)) (slots_of known.number (drop at l))
      (All-map (IsLower known slot) (as_entry known.number) (take at l) (All-weaker (λ x. slot_of x < slot) (λ x. IsLower known slot (as_entry known.number x)) (λ x lt same. lt) (take at l) low))
      (All-map (IsNotLower known slot) (as_entry known.number) (drop at l) (All-weaker (λ x. slot ≤ slot_of x) (λ x. IsNotLower known slot (as_entry known.number x)) (λ x le same. le) (drop at l) high))
      ∙ counted_slots known (take at l))

  -- and those after it are those from the place on where the slots have passed it
  pub after_at : (at : ℕ) → All (λ x. slot_of x ≤ slot) (take at l) → All (λ x. slot < slot_of x) (drop at l)
      → counted_in known.point (drop at l) ≡ numbers_after known slot (slots_of known.number l)
  after_at at low high =
      sym (ap (numbers_after known slot) (parted at)
      ∙ after_parts known slot (slots_of known.number (take at l)) (slots_of known.number (drop at l))
      (All-map (IsNotHigher known slot) (as_entry known.number) (take at l) (All-weaker (λ x. slot_of x ≤ slot) (λ x. IsNotHigher known slot (as_entry known.number x)) (λ x le same. le) (take at l) low))
      (All-map (IsHigher known slot) (as_entry known.number) (drop at l) (All-weaker (λ x. slot < slot_of x) (λ x. IsHigher known slot (as_entry known.number x)) (λ x lt same. lt) (drop at l) high))
      ∙ counted_slots known (drop at l))

  blank : SlotRow
  blank = record { slot = 0; reading = record { words = []; counted = false } }

  -- where the slot stands
  pub before_here : (at : ℕ) → IsAt slot_of l slot at → counted_in known.point (take at l) ≡ numbers_before known slot (slots_of known.number l)
  before_here at here =
      before_at at here.below
      (subst (All (λ x. slot ≤ slot_of x)) (sym (drop-cons l at blank here.in_range))
      (All-cons (λ x. slot ≤ slot_of x) (get_or l at blank) (drop (suc at) l) (let same = here.same blank in omega (arith, same))
      (All-weaker (λ x. slot < slot_of x) (λ x. slot ≤ slot_of x) (λ x lt. omega (arith, lt)) (drop (suc at) l) here.above)))

  pub after_here : (at : ℕ) → IsAt slot_of l slot at → counted_in known.point (drop (suc at) l) ≡ numbers_after known slot (slots_of known.number l)
  after_here at here =
      after_at (suc at)
      (subst (All (λ x. slot_of x ≤ slot)) (sym (take-suc l at blank here.in_range))
      (All-append (λ x. slot_of x ≤ slot) (take at l) (get_or l at blank ∷ [])
      (All-weaker (λ x. slot_of x < slot) (λ x. slot_of x ≤ slot) (λ x lt. omega (arith, lt)) (take at l) here.below)
      (All-cons (λ x. slot_of x ≤ slot) (get_or l at blank) [] (let same = here.same blank in omega (arith, same)) (All-nil (λ x. slot_of x ≤ slot)))))
      here.above

  -- where it would go
  pub before_gap : (at : ℕ) → IsGap slot_of l slot at → counted_in known.point (take at l) ≡ numbers_before known slot (slots_of known.number l)
  before_gap at gap = before_at at gap.below (All-weaker (λ x. slot < slot_of x) (λ x. slot ≤ slot_of x) (λ x lt. omega (arith, lt)) (drop at l) gap.above)

  pub after_gap : (at : ℕ) → IsGap slot_of l slot at → counted_in known.point (drop at l) ≡ numbers_after known slot (slots_of known.number l)
  after_gap at gap = after_at at (All-weaker (λ x. slot_of x < slot) (λ x. slot_of x ≤ slot) (λ x lt. omega (arith, lt)) (take at l) gap.below) gap.above

-- what a test leaves of a point's own rows gives the numbers that it leaves of all rows
pub filtered_own : (known : PointRow) (test : Key × Reading → Bool) (table : Readings)
    → counted_numbers known (filter test (own known.number table)) ≡ counted_numbers known (filter test table)
filtered_own known test [] = refl
filtered_own known test (x ∷ table) = by (eqb x.0.0 known.number) (test x) refl refl (filtered_own known test table)
  where
    number : Bool → Option ℕ
    number b = cond (b && x.1.counted) (counted_number known.point x.1.words) None

    by : (mine passes : Bool) → eqb x.0.0 known.number ≡ mine → test x ≡ passes
        → counted_numbers known (filter test (own known.number table)) ≡ counted_numbers known (filter test table)
        → counted_numbers known (filter test (cond mine (x ∷ own known.number table) (own known.number table))) ≡ counted_numbers known (cond passes (x ∷ filter test table) (filter test table))
    by true true is_mine is_passed rest =
        ap (λ b. counted_numbers known (cond b (x ∷ filter test (own known.number table)) (filter test (own known.number table)))) is_passed
        ∙ ap (cons_option (number (eqb x.0.0 known.number))) rest
    by true false is_mine is_passed rest =
        ap (λ b. counted_numbers known (cond b (x ∷ filter test (own known.number table)) (filter test (own known.number table)))) is_passed ∙ rest
    by false true is_mine is_passed rest = rest ∙ ap (λ b. cons_option (number b) (counted_numbers known (filter test table))) (sym is_mine)
    by false false is_mine is_passed rest = rest
