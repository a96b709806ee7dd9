-- The tables of a history are as an office counts on them: its readings are of its points, and its totals are theirs.
use Rattle.std.proofs.Common.{◌≡◌, T, sym, ◌∙◌, ◌≤◌, ℕ, Bool, true, false, cond, not, ◌&&◌, List, [], ◌∷◌, ◌++◌, length, map, take, filter, Option, Some, None, refl, arith, length-append}
use Rattle.std.specs.Prelude.{All, Contains, slice_get}
use Rattle.std.proofs.lemmas.List.Elements.{All-nil, All-append, All-contains_itself, Contains-append_left, All-filter, All-map, All-take, All-weaker}
use Rattle.poll_book.specs.declared.rows.PointRow.{PointRow}
use Rattle.poll_book.specs.declared.rows.Reading.{Reading}
use Rattle.poll_book.specs.Tables.{Key, key_cmp, Voids, is_void, marked_one}
use Rattle.poll_book.specs.Totals.{is_counted}
use Rattle.poll_book.proofs.Tabled.{keys_total}
use Rattle.std.specs.FinMap.Entries as rows
use Rattle.poll_book.specs.Changes.{keyed_one}
use Rattle.office_core.specs.Cover.{Question, cells, covers, excepts, given_rows, words_in}
use Rattle.office_core.specs.Queries.{Query, Reads, Writes, fits}
use Rattle.office_core.specs.Loads.{loading, added}
use Rattle.office_core.specs.History.{Restart, Load, Order, Void, Open, Ask, Send, Reply, Noise, History, site_of, points, is_used, asked, is_answered, given_by, given, readings, tables, voiding, voids}
use Rattle.office_core.specs.Voids.{Voiding, Refused, Taken, with_voiding}
use Rattle.office_core.specs.Keeping.{IsCounted, IsOfPoint}
use Rattle.office_core.proofs.BySlot.{kept_sorted}
use Rattle.office_core.proofs.Loaded.{numbered_points}
use Rattle.office_core.proofs.OnePoint.{number_in}
use Rattle.office_core.proofs.PutRows.{with_rows_all}

abbrev IsKnown : ℕ → Key × Reading → Type 0
IsKnown n row = row.0.0 ≤ n

-- what a reply gives is of points that are known
rows_known : (before : History) (q : Question) (unit : List ℕ) → All (IsKnown (length (points before))) (given_rows (points before) q unit)
rows_known before q unit =
    All-map (IsKnown (length (points before))) (keyed_one q.slot) (map (λ (x : PointRow). (x, words_in q.read (cells q.read unit) x.point)) known)
    (All-map (λ (c : PointRow × List ℕ). c.0.number ≤ length (points before)) (λ (x : PointRow). (x, words_in q.read (cells q.read unit) x.point)) known
    (All-filter (λ (x : PointRow). covers q.device q.read x.point) (λ (x : PointRow). x.number ≤ length (points before)) (take q.known (points before))
    (All-take (λ (x : PointRow). x.number ≤ length (points before)) q.known (points before)
    (All-weaker (Contains (points before)) (λ (x : PointRow). x.number ≤ length (points before)) (λ x there. let r = (number_in 0 (points before) x (numbered_points before) there).1 in omega arith) (points before)
    (All-contains_itself (points before))))))
  where
    known : List PointRow
    known = filter (λ (x : PointRow). covers q.device q.read x.point) (take q.known (points before))

new_known : (before : History) (c n : ℕ) (unit : List ℕ)
    → All (IsKnown (length (points before))) (cond (is_answered before c n) [] (given_by (points before) (slice_get (asked before c) n) unit))
new_known before c n unit = by (is_answered before c n)
  where
    none : All (IsKnown (length (points before))) []
    none = All-nil (IsKnown (length (points before)))

    fitting : (q : Question) (b : Bool) → All (IsKnown (length (points before))) (cond b (given_rows (points before) q unit) [])
    fitting q true = rows_known before q unit
    fitting q false = none

    queried : (o : Option Query) → All (IsKnown (length (points before))) (given_by (points before) o unit)
    queried None = none
    queried (Some (Reads q)) = fitting q (fits (Reads q) unit && not (excepts q.read unit))
    queried (Some (Writes w)) = none

    by : (b : Bool) → All (IsKnown (length (points before))) (cond b [] (given_by (points before) (slice_get (asked before c) n) unit))
    by true = none
    by false = queried (slice_get (asked before c) n)

given_known : (before : History) → All (IsKnown (length (points before))) (given before)
given_known [] = All-nil (IsKnown 0)
given_known (Load edition caller key list ∷ before) = by (is_used before (caller, key)) (given_known before)
  where
    more : List PointRow
    more = added (length (points before)) (loading edition (site_of before) (points before) list)

    by : (b : Bool) → All (IsKnown (length (points before))) (given before) → All (IsKnown (length (cond b (points before) (points before ++ more)))) (given before)
    by true earlier = earlier
    by false earlier =
        All-weaker (IsKnown (length (points before))) (IsKnown (length (points before ++ more))) (λ row le. omega (arith, le, length-append (points before) more)) (given before) earlier
given_known (Reply c n unit ∷ before) = All-append (IsKnown (length (points before))) (given before) _ (given_known before) (new_known before c n unit)
given_known (Restart site ∷ before) = given_known before
given_known (Order caller key point value ∷ before) = given_known before
given_known (Void caller key point at ∷ before) = given_known before
given_known (Open line ∷ before) = given_known before
given_known (Ask c device slot read ∷ before) = given_known before
given_known (Send c number ∷ before) = given_known before
given_known (Noise c frame ∷ before) = given_known before

-- ---- readings and their points

-- a row that says whether it counts for the point that it is of
record IsSaid (points : List PointRow) (row : Key × Reading) : Type 0 where
  point : PointRow
  there : Contains points point
  number : point.number ≡ row.0.0
  said : row.1.counted ≡ is_counted point.point row.1.words

rows_said : (before : History) (q : Question) (unit : List ℕ) → All (IsSaid (points before)) (given_rows (points before) q unit)
rows_said before q unit =
    All-map (IsSaid (points before)) (keyed_one q.slot) (map (λ (x : PointRow). (x, words_in q.read (cells q.read unit) x.point)) known)
    (All-map (λ (c : PointRow × List ℕ). IsSaid (points before) (keyed_one q.slot c)) (λ (x : PointRow). (x, words_in q.read (cells q.read unit) x.point)) known
    (All-weaker (Contains (points before)) (λ (x : PointRow). IsSaid (points before) (keyed_one q.slot (x, words_in q.read (cells q.read unit) x.point)))
    (λ x there. record { point = x; there = there; number = refl; said = refl }) known
    (All-filter (λ (x : PointRow). covers q.device q.read x.point) (Contains (points before)) (take q.known (points before))
    (All-take (Contains (points before)) q.known (points before) (All-contains_itself (points before))))))
  where
    known : List PointRow
    known = filter (λ (x : PointRow). covers q.device q.read x.point) (take q.known (points before))

new_said : (before : History) (c n : ℕ) (unit : List ℕ)
    → All (IsSaid (points before)) (cond (is_answered before c n) [] (given_by (points before) (slice_get (asked before c) n) unit))
new_said before c n unit = by (is_answered before c n)
  where
    none : All (IsSaid (points before)) []
    none = All-nil (IsSaid (points before))

    fitting : (q : Question) (b : Bool) → All (IsSaid (points before)) (cond b (given_rows (points before) q unit) [])
    fitting q true = rows_said before q unit
    fitting q false = none

    queried : (o : Option Query) → All (IsSaid (points before)) (given_by (points before) o unit)
    queried None = none
    queried (Some (Reads q)) = fitting q (fits (Reads q) unit && not (excepts q.read unit))
    queried (Some (Writes w)) = none

    by : (b : Bool) → All (IsSaid (points before)) (cond b [] (given_by (points before) (slice_get (asked before c) n) unit))
    by true = none
    by false = queried (slice_get (asked before c) n)

given_said : (before : History) → All (IsSaid (points before)) (given before)
given_said [] = All-nil (IsSaid [])
given_said (Load edition caller key list ∷ before) = by (is_used before (caller, key)) (given_said before)
  where
    more : List PointRow
    more = added (length (points before)) (loading edition (site_of before) (points before) list)

    by : (b : Bool) → All (IsSaid (points before)) (given before) → All (IsSaid (cond b (points before) (points before ++ more))) (given before)
    by true earlier = earlier
    by false earlier =
        All-weaker (IsSaid (points before)) (IsSaid (points before ++ more))
        (λ row is. record { point = is.point; there = Contains-append_left (points before) more is.point is.there; number = is.number; said = is.said }) (given before) earlier
given_said (Reply c n unit ∷ before) = All-append (IsSaid (points before)) (given before) _ (given_said before) (new_said before c n unit)
given_said (Restart site ∷ before) = given_said before
given_said (Order caller key point value ∷ before) = given_said before
given_said (Void caller key point at ∷ before) = given_said before
given_said (Open line ∷ before) = given_said before
given_said (Ask c device slot read ∷ before) = given_said before
given_said (Send c number ∷ before) = given_said before
given_said (Noise c frame ∷ before) = given_said before

-- one that is kept as counted does
kept_said : (points : List PointRow) (voids : Voids) (row : Key × Reading) → IsSaid points row → IsOfPoint points (marked_one voids row)
kept_said points voids row is = record { point = is.point; there = is.there; number = is.number; counts = λ e. sym is.said ∙ by (is_void voids row.0) e }
  where
    by : (b : Bool) → not b && row.1.counted ≡ true → row.1.counted ≡ true
    by true e = absurd (cc)
    by false e = e

-- voids lie by key
voids_sorted : (before : History) → T (rows.is_sorted key_cmp (voids before))
voids_sorted [] = tt
voids_sorted (Void caller key point slot ∷ before) = by (is_used before (caller, key)) (voiding before point slot) (voids_sorted before)
  where
    put : (v : Voiding) → T (rows.is_sorted key_cmp (voids before)) → T (rows.is_sorted key_cmp (with_voiding slot v (voids before)))
    put (Refused fault) sorted = sorted
    put (Taken known) sorted = rows.is_sorted-put key_cmp keys_total (known.number, slot) tt (voids before) sorted

    by : (b : Bool) (v : Voiding) → T (rows.is_sorted key_cmp (voids before)) → T (rows.is_sorted key_cmp (cond b (voids before) (with_voiding slot v (voids before))))
    by true v sorted = sorted
    by false v sorted = put v sorted
voids_sorted (Restart site ∷ before) = voids_sorted before
voids_sorted (Load edition caller key list ∷ before) = voids_sorted before
voids_sorted (Order caller key point value ∷ before) = voids_sorted before
voids_sorted (Open line ∷ before) = voids_sorted before
voids_sorted (Ask c device slot read ∷ before) = voids_sorted before
voids_sorted (Send c number ∷ before) = voids_sorted before
voids_sorted (Reply c n unit ∷ before) = voids_sorted before
voids_sorted (Noise c frame ∷ before) = voids_sorted before

pub counted_tables : (before : History) → IsCounted (tables before)
counted_tables before = record {
  points = numbered_points before;
  by_key = kept_sorted before;
  void_keys = voids_sorted before;
  of_points = All-map (IsOfPoint (points before)) (marked_one (voids before)) (readings before)
      (All-weaker (IsSaid (points before)) (λ row. IsOfPoint (points before) (marked_one (voids before) row)) (kept_said (points before) (voids before)) (readings before)
      (with_rows_all (IsSaid (points before)) (given before) [] (given_said before) (All-nil (IsSaid (points before)))));
  known = All-map (IsKnown (length (points before))) (marked_one (voids before)) (readings before)
      (with_rows_all (IsKnown (length (points before))) (given before) [] (given_known before) (All-nil (IsKnown (length (points before)))));
  totals = refl;
}
