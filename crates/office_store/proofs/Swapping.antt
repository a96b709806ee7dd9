-- The numbers of the swapped points, by which the points are told from those in the usual order.
use Rattle.std.proofs.Common.{◌≡◌, ℕ, ◌<◌, List, [], ◌∷◌, ◌++◌, map, Bool, true, false, cond, None, refl, sym, ap, ap₂, ◌∙◌, T, append-nil}
use Rattle.std.specs.Prelude.{⊤, is_some}
use Rattle.std.specs.List.{AllByRecursion, filter}
use Rattle.std.specs.FinMap.Entries as rows
use Rattle.std.specs.Ordering.{eq_by_cmp, is_eq, is_lt, nat_cmp}
use Rattle.std.specs.Cmp.{nat_cmp_total, tied_itself}
use Rattle.point_list.specs.declared.point.Point.{Point}
use Rattle.poll_book.specs.declared.rows.PointRow.{PointRow}
use Rattle.office_store.specs.Swaps.{AreInOrder, Swaps, is_swapped, plain, swaps_of}
use Rattle.office_store.proofs.PlainPoints.{ordered, ordered_back, same_order}
use Rattle.office_store.proofs.Sorted.{both_T, flips, lt_is, pair_T, true_T}

abbrev entry : PointRow → ℕ × Point
entry known = (known.number, known.point)

abbrev key : PointRow → ℕ × ⊤
key known = (known.number, tt)

-- ---- their order

swaps_above : (k : ℕ) (points : List PointRow) → T (rows.below_all nat_cmp k (map entry points)) → T (rows.below_all nat_cmp k (swaps_of points))
swaps_above k [] h = tt
swaps_above k (p ∷ points) h = let both = both_T _ _ h in step (is_swapped p) both.0 (swaps_above k points both.1)
  where
    step : (b : Bool) → T (is_lt (nat_cmp k p.number)) → T (rows.below_all nat_cmp k (swaps_of points)) → T (rows.below_all nat_cmp k (map key (cond b (p ∷ filter is_swapped points) (filter is_swapped points))))
    step true here rest = pair_T _ _ here rest
    step false here rest = rest

pub swaps_sorted : (points : List PointRow) → AreInOrder points → T (rows.is_sorted nat_cmp (swaps_of points))
swaps_sorted [] h = tt
swaps_sorted (p ∷ points) h = let both = both_T _ _ h in step (is_swapped p) (swaps_above p.number points both.0) (swaps_sorted points both.1)
  where
    step : (b : Bool) → T (rows.below_all nat_cmp p.number (swaps_of points)) → T (rows.is_sorted nat_cmp (swaps_of points)) → T (rows.is_sorted nat_cmp (map key (cond b (p ∷ filter is_swapped points) (filter is_swapped points))))
    step true here rest = pair_T _ _ here rest
    step false here rest = rest

pub swaps_low : (n : ℕ) (points : List PointRow) → AllByRecursion (λ p. p.number < n) points → AllByRecursion (λ e. e.0 < n) (swaps_of points)
swaps_low n [] low = tt
swaps_low n (p ∷ points) low = step (is_swapped p) (swaps_low n points low.1)
  where
    step : (b : Bool) → AllByRecursion (λ e. e.0 < n) (swaps_of points) → AllByRecursion (λ e. e.0 < n) (map key (cond b (p ∷ filter is_swapped points) (filter is_swapped points)))
    step true rest = (low.0, rest)
    step false rest = rest

-- ---- one point more

swaps_append : (xs ys : List PointRow) → swaps_of (xs ++ ys) ≡ swaps_of xs ++ swaps_of ys
swaps_append [] ys = refl
swaps_append (x ∷ xs) ys = step (is_swapped x) (swaps_append xs ys)
  where
    step : (b : Bool) → swaps_of (xs ++ ys) ≡ swaps_of xs ++ swaps_of ys
        → map key (cond b (x ∷ filter is_swapped (xs ++ ys)) (filter is_swapped (xs ++ ys))) ≡ map key (cond b (x ∷ filter is_swapped xs) (filter is_swapped xs)) ++ swaps_of ys
    step true rest = ap (λ es. key x ∷ es) rest
    step false rest = rest

pub one_swap_more : (points : List PointRow) (known : PointRow) → is_swapped known ≡ true → swaps_of (points ++ known ∷ []) ≡ swaps_of points ++ key known ∷ []
one_swap_more points known is = swaps_append points (known ∷ []) ∙ ap (λ b. swaps_of points ++ map key (cond b (known ∷ []) [])) is

pub no_swap_more : (points : List PointRow) (known : PointRow) → is_swapped known ≡ false → swaps_of (points ++ known ∷ []) ≡ swaps_of points
no_swap_more points known is = swaps_append points (known ∷ []) ∙ ap (λ b. swaps_of points ++ map key (cond b (known ∷ []) [])) is ∙ append-nil (swaps_of points)

-- ---- a number of a point is there just where the point is swapped

abbrev has_swap : Swaps → ℕ → Bool
has_swap swaps n = is_some (rows.find nat_cmp n swaps)

none_below : (k : ℕ) (swaps : Swaps) → T (rows.below_all nat_cmp k swaps) → rows.find nat_cmp k swaps ≡ None
none_below k [] h = refl
none_below k (e ∷ swaps) h = let both = both_T _ _ h in let less = lt_is (nat_cmp k e.0) (true_T _ both.0) in rw less (none_below k swaps both.1)

unfoldable IsTold : Swaps → PointRow → Type 0
IsTold swaps known = has_swap swaps known.number ≡ is_swapped known

told_each : (points : List PointRow) → AreInOrder points → AllByRecursion (IsTold (swaps_of points)) points
unfolding IsTold
told_each [] h = tt
told_each (p ∷ points) h =
    let both = both_T _ _ h in
    let more : Swaps = swaps_of points in
    let none : has_swap more p.number ≡ false = ap is_some (none_below p.number more (swaps_above p.number points both.0)) in
    (here (is_swapped p) none, later points both.0 (told_each points both.1))
  where
    here : (b : Bool) → has_swap (swaps_of points) p.number ≡ false → has_swap (map key (cond b (p ∷ filter is_swapped points) (filter is_swapped points))) p.number ≡ b
    here true none = rw (tied_itself nat_cmp_total p.number) refl
    here false none = none

    one : (b : Bool) (q : PointRow) → T (is_lt (nat_cmp p.number q.number)) → has_swap (swaps_of points) q.number ≡ is_swapped q
        → has_swap (map key (cond b (p ∷ filter is_swapped points) (filter is_swapped points))) q.number ≡ is_swapped q
    one true q above rest =
        let apart : eq_by_cmp nat_cmp q.number p.number ≡ false = flips nat_cmp nat_cmp_total q.number p.number ∙ ap is_eq (lt_is (nat_cmp p.number q.number) (true_T _ above)) in
        rw apart rest
    one false q above rest = rest

    later : (qs : List PointRow) → T (rows.below_all nat_cmp p.number (map entry qs)) → AllByRecursion (IsTold (swaps_of points)) qs → AllByRecursion (IsTold (swaps_of (p ∷ points))) qs
    later [] above rest = tt
    later (q ∷ qs) above rest = let both = both_T _ _ above in (one (is_swapped p) q both.0 rest.0, later qs both.1 rest.1)

abbrev pub given : Swaps → PointRow → PointRow
given swaps known = ordered (has_swap swaps known.number) known

pub given_back : (points : List PointRow) → AreInOrder points → map (given (swaps_of points)) (map plain points) ≡ points
unfolding IsTold
given_back points sorted = each points (told_each points sorted)
  where
    each : (qs : List PointRow) → AllByRecursion (IsTold (swaps_of points)) qs → map (given (swaps_of points)) (map plain qs) ≡ qs
    each [] told = refl
    each (q ∷ qs) told = ap₂ (λ (x : PointRow) (xs : List PointRow). x ∷ xs) (ap (λ b. ordered b (plain q)) told.0 ∙ ordered_back q) (each qs told.1)

pub plain_given : (swaps : Swaps) (points : List PointRow) → map plain (map (given swaps) points) ≡ map plain points
plain_given swaps [] = refl
plain_given swaps (p ∷ points) = ap (λ ps. plain p ∷ ps) (plain_given swaps points)

pub given_sorted : (swaps : Swaps) (points : List PointRow) → AreInOrder points → AreInOrder (map (given swaps) points)
given_sorted swaps points sorted = same_order points (map (given swaps) points) (sym (plain_given swaps points)) sorted

-- the points in the usual order and the numbers of the swapped ones tell the points
pub same_points : (xs ys : List PointRow) → AreInOrder xs → map plain xs ≡ map plain ys → swaps_of xs ≡ swaps_of ys → xs ≡ ys
same_points xs ys sorted points swaps =
    sym (given_back xs sorted) ∙ ap₂ (λ (s : Swaps) (ps : List PointRow). map (given s) ps) swaps points ∙ given_back ys (same_order xs ys points sorted)
