-- Points whose device sends the least significant register first.
use Rattle.std.specs.Prelude.{◌≡◌, ⊤, ℕ, Bool, true, false, List, map, T}
use Rattle.std.specs.List.{filter}
use Rattle.std.specs.FinMap.Entries as rows
use Rattle.std.specs.Ordering.{nat_cmp}
use Rattle.sunspec.specs.PointType.{can_be_swapped}
use Rattle.sunspec.specs.declared.word_order.WordOrder.{WordOrder}
use Rattle.sunspec.specs.declared.word_order.WordOrder.TheVariants.{Big, Swapped}
use Rattle.poll_book.specs.declared.rows.PointRow.{PointRow}
use Rattle.office_store.specs.declared.swaps.Swap.{Swap}

-- the numbers of points, as the keys of a map
abbrev pub Swaps : Type 0
Swaps = List (ℕ × ⊤)

abbrev pub comes_swapped : WordOrder → Bool
comes_swapped Big = false
comes_swapped Swapped = true

abbrev pub is_swapped : PointRow → Bool
is_swapped known = comes_swapped known.point.order

-- the point with its registers in the usual order
abbrev pub plain : PointRow → PointRow
plain known = record { number = known.number; point = record known.point { order = Big } }

-- the numbers of those that are swapped
abbrev pub swaps_of : List PointRow → Swaps
swaps_of points = map (λ known. (known.number, tt)) (filter is_swapped points)

-- points by their numbers, each once
abbrev pub AreInOrder : List PointRow → Type 0
AreInOrder points = T (rows.is_sorted nat_cmp (map (λ known. (known.number, known.point)) points))

-- only a number of two or four registers can be swapped
abbrev pub CanHaveOrder : PointRow → Type 0
CanHaveOrder known = is_swapped known ≡ true → can_be_swapped known.point.kind ≡ true

abbrev pub as_swap : Swap → ℕ × ⊤
as_swap swap = (swap.point, tt)
