-- Totals of histories of which the one has the readings of the other, and more.
use Rattle.std.proofs.Common.{◌≡◌, ◌≤◌, ℕ, ◌+◌, ◌*◌, Bool, true, false, cond, ◌&&◌, List, length, get_or, Option, Some, None, refl, sym, ap, ◌∙◌, subst}
use Rattle.std.specs.Prelude.{ℤ, All, Contains, nat_le, not, pos, negsuc, is_some, option_map}
use Rattle.std.proofs.lemmas.List.Elements.{Contains-get_or}
use Rattle.std.proofs.lemmas.Option.{none-some, same_Some}
use Rattle.std.proofs.lemmas.Bool.{leb-true}
use Rattle.sunspec.specs.WordOrder.{number_read}
use Rattle.point_list.specs.declared.point.Point.{Point}
use Rattle.poll_book.specs.declared.rows.PointRow.{PointRow}
use Rattle.poll_book.specs.declared.rows.Reading.{Reading}
use Rattle.poll_book.specs.Tables.{Key, Voids, is_void, reading_at}
use Rattle.poll_book.specs.Totals.{number_within, counted_number, is_counter, steps}
use Rattle.office_core.specs.History.{History, points, kept_readings, readings, total, voids}
use Rattle.office_core.specs.Legal.{Legal}
use Rattle.office_core.specs.FirstArrivals.{Counts, AreBySlot, numbers_of}
use Rattle.office_core.specs.Losses.{HasReadingsOf, first_slot, last_slot}
use Rattle.office_core.proofs.BySlot.{pairs, pair_numbers, by_slot, one_by_slot}
use Rattle.office_core.proofs.Fitting.{said}
use Rattle.office_core.proofs.Marks.{at_marked, mark}
use Rattle.office_core.proofs.SlotsLost.{slots_lost, rounds_of_slots}

-- ---- a number that counts is at most the roll

value_within : (roll : ℕ) (v : Option ℤ) (n : ℕ) → number_within roll v ≡ Some n → n ≤ roll
value_within roll (Some (pos m)) n e = by (nat_le m roll) refl e
  where
    by : (b : Bool) → nat_le m roll ≡ b → cond b (Some m) None ≡ Some n → n ≤ roll
    by true le f = subst (λ k. k ≤ roll) (same_Some m n f) (leb-true m roll le)
    by false le f = absurd (none-some n f)
value_within roll (Some (negsuc m)) n e = absurd (none-some n e)
value_within roll None n e = absurd (none-some n e)

number_bound : (point : Point) (words : List ℕ) (n : ℕ) → counted_number point words ≡ Some n → n ≤ point.roll
number_bound point words n e = by (is_counter point.role) e
  where
    by : (b : Bool) → cond b (number_within point.roll (number_read point.kind point.order words)) None ≡ Some n → n ≤ point.roll
    by true f = value_within point.roll (number_read point.kind point.order words) n f
    by false f = absurd (none-some n f)

pairs_within : (before : History) (known : PointRow) (xs : List (ℕ × ℕ)) → AreBySlot before known xs → All (λ p. p.1 ≤ known.point.roll) xs
pairs_within before known xs are k d lt =
    let p = get_or xs k d in
    let c = (are.are p.0 p.1).0 (Contains-get_or xs k d lt) in
    number_bound known.point c.reading.words p.1 c.reads

total_is : (before : History) (known : PointRow) (xs : List (ℕ × ℕ)) → AreBySlot before known xs → total before known ≡ steps known.point.roll (numbers_of xs)
total_is before known xs are =
    ap (steps known.point.roll) (pair_numbers known (kept_readings before))
    ∙ ap (λ l. steps known.point.roll (numbers_of l)) (sym (one_by_slot before known xs are))

-- ---- what counts in the one counts in the other

-- what a marked reading was
unmarked : (pairs : Voids) (key : Key) (o : Option Reading) (r : Reading) → option_map (mark pairs key) o ≡ Some r → (was : Reading) × (o ≡ Some was) × (mark pairs key was ≡ r)
unmarked pairs key None r e = absurd (none-some r e)
unmarked pairs key (Some was) r e = (was, refl, same_Some (mark pairs key was) r e)

not_void : (b counted : Bool) → not b && counted ≡ true → b ≡ false
not_void true counted e = absurd (cc)
not_void false counted e = refl

module _ (less more : History) (known : PointRow) (few : Legal less) (many : Legal more) (same : points less ≡ points more) (pairs_same : voids less ≡ voids more) (there : Contains (points less) known) (has : HasReadingsOf more less known) where
  counts : (slot number : ℕ) → Counts less known slot number → Counts more known slot number
  counts slot number c =
      let key : Key = (known.number, slot) in
      let own = unmarked (voids less) key (reading_at (readings less) key) c.reading (sym (at_marked (voids less) (readings less) key) ∙ c.stands) in
      let other = has slot own.0 own.1 in
      let reads : counted_number known.point other.0.words ≡ Some number = ap (counted_number known.point) (other.2 ∙ ap (λ (r : Reading). r.words) own.2) ∙ c.reads in
      let free : is_void (voids more) key ≡ false = ap (λ v. is_void v key) (sym pairs_same) ∙ not_void (is_void (voids less) key) own.0.counted (ap (λ (r : Reading). r.counted) own.2 ∙ c.counted) in
      let counts_so = said more known slot other.0 many (subst (λ l. Contains l known) same there) other.1 ∙ ap is_some reads in
      record {
        reading = mark (voids more) key other.0;
        stands = at_marked (voids more) (readings more) key ∙ ap (option_map (mark (voids more) key)) other.1;
        counted = ap (λ b. not b && other.0.counted) free ∙ counts_so;
        reads = reads;
      }

  pairs_there : (xs ys : List (ℕ × ℕ)) → AreBySlot less known xs → AreBySlot more known ys → (p : ℕ × ℕ) → Contains xs p → Contains ys p
  pairs_there xs ys lower upper p c = (upper.are p.0 p.1).1 (counts p.0 p.1 ((lower.are p.0 p.1).0 c))

  -- readings that are lost don't raise a total
  pub total_lost : total less known ≤ total more known
  total_lost =
      let xs = pairs known (kept_readings less) in
      let ys = pairs known (kept_readings more) in
      let lower = by_slot less known in
      let upper = by_slot more known in
      let h = slots_lost known.point.roll xs ys (pairs_within more known ys upper) lower.rise upper.rise (pairs_there xs ys lower upper) in
      subst (λ n. n ≤ total more known) (sym (total_is less known xs lower))
      (subst (λ n. steps known.point.roll (numbers_of xs) ≤ n) (sym (total_is more known ys upper)) h)

  -- and lower it by whole rounds where the least and the greatest slot that count stay
  pub rounds_of_total : (xs ys : List (ℕ × ℕ)) → AreBySlot less known xs → AreBySlot more known ys → first_slot xs ≡ first_slot ys → last_slot xs ≡ last_slot ys
      → (k : ℕ) × (total less known + k * (known.point.roll + 1) ≡ total more known) × (k + length xs ≤ length ys)
  rounds_of_total xs ys lower upper first last =
      let r = rounds_of_slots known.point.roll xs ys (pairs_within more known ys upper) lower.rise upper.rise (pairs_there xs ys lower upper) first last in
      (r.0, ap (λ n. n + r.0 * (known.point.roll + 1)) (total_is less known xs lower) ∙ r.1 ∙ sym (total_is more known ys upper), r.2)
