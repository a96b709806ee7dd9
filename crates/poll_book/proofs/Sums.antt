-- Totals by the numbers of their points, put and found.
use Rattle.std.proofs.Common.{◌≡◌, ℕ, ◌<◌, List, get_or, set, take, drop, Some, None, refl, sym}
use Rattle.std.specs.Prelude.{All}
use Rattle.std.specs.List.{insert}
use Rattle.std.specs.Ordering.{nat_cmp}
use Rattle.std.specs.Cmp.{nat_cmp_is}
use Rattle.std.specs.declared.cmp.Ordering.TheVariants.{Less, Equal, Greater}
use Rattle.std.proofs.lemmas.List.Elements.{All-weaker}
use Rattle.poll_book.specs.declared.rows.TotalRow.{TotalRow}
use Rattle.poll_book.specs.Tables.{sum_at, with_sum}
use Rattle.poll_book.specs.Changes.{as_sum, as_sums}
use Rattle.poll_book.specs.Histories.{IsAt, IsGap}
use Rattle.poll_book.specs.Marks.{total_point}
use Rattle.poll_book.proofs.Entries as entries

below : (n : ℕ) (xs : List TotalRow) → All (λ x. total_point x < n) xs → All (λ x. nat_cmp n (as_sum x).0 ≡ Greater) xs
below n xs h = All-weaker (λ x. total_point x < n) (λ x. nat_cmp n (as_sum x).0 ≡ Greater) (λ x lt. sym (nat_cmp_is n (total_point x) Greater lt)) xs h

above : (n : ℕ) (xs : List TotalRow) → All (λ x. n < total_point x) xs → All (λ x. nat_cmp n (as_sum x).0 ≡ Less) xs
above n xs h = All-weaker (λ x. n < total_point x) (λ x. nat_cmp n (as_sum x).0 ≡ Less) (λ x lt. sym (nat_cmp_is n (total_point x) Less lt)) xs h

tied : (n : ℕ) (x : TotalRow) → total_point x ≡ n → nat_cmp n (as_sum x).0 ≡ Equal
tied n x same = sym (nat_cmp_is n (total_point x) Equal (sym same))

-- to write over a total is to put it
pub put_over : (row : TotalRow) (l : List TotalRow) (at : ℕ) → IsAt total_point l row.point at → as_sums (set l at row) ≡ with_sum row.point row.total (as_sums l)
put_over row l at here =
    entries.put_over nat_cmp as_sum row.point l at (below row.point (take at l) here.below) row here.in_range (tied row.point (get_or l at row) (here.same row)) (here.same row)

-- to insert it in its gap is to put it
pub put_in : (row : TotalRow) (l : List TotalRow) (at : ℕ) → IsGap total_point l row.point at → as_sums (insert l at row) ≡ with_sum row.point row.total (as_sums l)
put_in row l at gap = entries.put_in nat_cmp as_sum row.point l at (below row.point (take at l) gap.below) row refl (above row.point (drop at l) gap.above)

pub find_here : (n : ℕ) (l : List TotalRow) (at : ℕ) (d : TotalRow) → IsAt total_point l n at → sum_at (as_sums l) n ≡ Some (get_or l at d).total
find_here n l at d here = entries.find_here nat_cmp as_sum n l at (below n (take at l) here.below) d here.in_range (tied n (get_or l at d) (here.same d))

pub find_none : (n : ℕ) (l : List TotalRow) (at : ℕ) → IsGap total_point l n at → sum_at (as_sums l) n ≡ None
find_none n l at gap = entries.find_no_row nat_cmp as_sum n l at (below n (take at l) gap.below) (above n (drop at l) gap.above)
