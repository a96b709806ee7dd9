-- Points with their registers in the usual order, beside the points themselves.
use Rattle.std.proofs.Common.{◌≡◌, ℕ, ◌<◌, List, [], ◌∷◌, map, Bool, true, false, cond, ◌&&◌, ◌==◌, Some, refl, sym, ap, ap₂, subst, T, option_map}
use Rattle.std.specs.List.{AllByRecursion}
use Rattle.std.specs.FinMap.Entries as rows
use Rattle.std.specs.Ordering.{is_lt, nat_cmp}
use Rattle.sunspec.specs.declared.word_order.WordOrder.{WordOrder}
use Rattle.sunspec.specs.declared.word_order.WordOrder.TheVariants.{Big, Swapped}
use Rattle.point_list.specs.declared.point.Point.{Point}
use Rattle.poll_book.specs.declared.rows.PointRow.{PointRow}
use Rattle.poll_book.specs.Orders.{point_at}
use Rattle.office_store.specs.Swaps.{AreInOrder, comes_swapped, is_swapped, plain}

abbrev entry : PointRow → ℕ × Point
entry known = (known.number, known.point)

plain_above : (k : ℕ) (points : List PointRow) → rows.below_all nat_cmp k (map entry (map plain points)) ≡ rows.below_all nat_cmp k (map entry points)
plain_above k [] = refl
plain_above k (p ∷ points) = ap (λ b. is_lt (nat_cmp k p.number) && b) (plain_above k points)

plain_order : (points : List PointRow) → rows.is_sorted nat_cmp (map entry (map plain points)) ≡ rows.is_sorted nat_cmp (map entry points)
plain_order [] = refl
plain_order (p ∷ points) = ap₂ (λ a b. a && b) (plain_above p.number points) (plain_order points)

-- their numbers stay
pub plain_sorted : (points : List PointRow) → AreInOrder points → AreInOrder (map plain points)
plain_sorted points sorted = subst T (sym (plain_order points)) sorted

pub same_order : (xs ys : List PointRow) → map plain xs ≡ map plain ys → AreInOrder xs → AreInOrder ys
same_order xs ys same sorted = subst T (plain_order ys) (subst AreInOrder same (plain_sorted xs sorted))

pub plain_twice : (points : List PointRow) → map plain (map plain points) ≡ map plain points
plain_twice [] = refl
plain_twice (p ∷ points) = ap (λ ps. plain p ∷ ps) (plain_twice points)

pub plain_low : (n : ℕ) (points : List PointRow) → AllByRecursion (λ p. p.number < n) points → AllByRecursion (λ p. p.number < n) (map plain points)
plain_low n [] low = tt
plain_low n (p ∷ points) low = (low.0, plain_low n points low.1)

-- a look-up among them finds the point's own
pub plain_found : (points : List PointRow) (n : ℕ) → point_at (map plain points) n ≡ option_map plain (point_at points n)
plain_found [] n = refl
plain_found (p ∷ points) n = step (p.number == n) (plain_found points n)
  where
    step : (b : Bool) → point_at (map plain points) n ≡ option_map plain (point_at points n) → cond b (Some (plain p)) (point_at (map plain points) n) ≡ option_map plain (cond b (Some p) (point_at points n))
    step true rest = refl
    step false rest = rest

-- a point in the order that is told
abbrev pub ordered : Bool → PointRow → PointRow
ordered swapped known = record { number = known.number; point = record known.point { order = cond swapped Swapped Big } }

order_back : (o : WordOrder) → cond (comes_swapped o) Swapped Big ≡ o
order_back Big = refl
order_back Swapped = refl

pub ordered_back : (known : PointRow) → ordered (is_swapped known) (plain known) ≡ known
ordered_back known = ap (λ o. record { number = known.number; point = record known.point { order = o } }) (order_back known.point.order)

plain_big : (o : WordOrder) → comes_swapped o ≡ false → Big ≡ o
plain_big Big h = refl
plain_big Swapped h = absurd (cc)

-- one that isn't swapped is so already
pub plain_itself : (known : PointRow) → is_swapped known ≡ false → plain known ≡ known
plain_itself known big = ap (λ o. record { number = known.number; point = record known.point { order = o } }) (plain_big known.point.order big)
