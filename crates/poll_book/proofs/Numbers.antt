-- Orders by their numbers, put and found.
use Rattle.std.proofs.Common.{◌≡◌, ℕ, zero, suc, ◌+◌, ◌-◌, ◌<◌, List, [], ◌∷◌, get_or, set, take, drop, length, Some, None, refl, sym, ap, arith}
use Rattle.std.specs.Prelude.{All}
use Rattle.std.specs.List.{insert, slice_get}
use Rattle.std.specs.Ordering.{nat_cmp}
use Rattle.std.specs.Cmp.{nat_cmp_is}
use Rattle.std.specs.declared.cmp.Ordering.TheVariants.{Less, Equal, Greater}
use Rattle.std.proofs.lemmas.List.Elements.{All-weaker}
use Rattle.std.proofs.lemmas.Option.{same_Some, none-some}
use Rattle.poll_book.specs.declared.rows.SettingRow.{SettingRow}
use Rattle.poll_book.specs.Orders.{as_setting, last_order, setting_at, with_setting}
use Rattle.poll_book.specs.Histories.{IsAt, IsGap}
use Rattle.poll_book.specs.Marks.{number_of, settings_of}
use Rattle.poll_book.proofs.Entries as entries

below : (n : ℕ) (xs : List SettingRow) → All (λ x. number_of x < n) xs → All (λ x. nat_cmp n (as_setting x).0 ≡ Greater) xs
below n xs h = All-weaker (λ x. number_of x < n) (λ x. nat_cmp n (as_setting x).0 ≡ Greater) (λ x lt. sym (nat_cmp_is n (number_of x) Greater lt)) xs h

above : (n : ℕ) (xs : List SettingRow) → All (λ x. n < number_of x) xs → All (λ x. nat_cmp n (as_setting x).0 ≡ Less) xs
above n xs h = All-weaker (λ x. n < number_of x) (λ x. nat_cmp n (as_setting x).0 ≡ Less) (λ x lt. sym (nat_cmp_is n (number_of x) Less lt)) xs h

tied : (n : ℕ) (x : SettingRow) → number_of x ≡ n → nat_cmp n (as_setting x).0 ≡ Equal
tied n x same = sym (nat_cmp_is n (number_of x) Equal (sym same))

-- to write over an order is to put it
pub put_over : (row : SettingRow) (l : List SettingRow) (at : ℕ) → IsAt number_of l row.number at → settings_of (set l at row) ≡ with_setting row.number (as_setting row).1 (settings_of l)
put_over row l at here =
    entries.put_over nat_cmp as_setting row.number l at (below row.number (take at l) here.below) row here.in_range (tied row.number (get_or l at row) (here.same row)) (here.same row)

-- to insert it in its gap is to put it
pub put_in : (row : SettingRow) (l : List SettingRow) (at : ℕ) → IsGap number_of l row.number at → settings_of (insert l at row) ≡ with_setting row.number (as_setting row).1 (settings_of l)
put_in row l at gap = entries.put_in nat_cmp as_setting row.number l at (below row.number (take at l) gap.below) row refl (above row.number (drop at l) gap.above)

pub find_here : (n : ℕ) (l : List SettingRow) (at : ℕ) (d : SettingRow) → IsAt number_of l n at → setting_at (settings_of l) n ≡ Some (as_setting (get_or l at d)).1
find_here n l at d here = entries.find_here nat_cmp as_setting n l at (below n (take at l) here.below) d here.in_range (tied n (get_or l at d) (here.same d))

pub find_none : (n : ℕ) (l : List SettingRow) (at : ℕ) → IsGap number_of l n at → setting_at (settings_of l) n ≡ None
find_none n l at gap = entries.find_no_row nat_cmp as_setting n l at (below n (take at l) gap.below) (above n (drop at l) gap.above)

-- the last order is the one at the end
last_from : (l : List SettingRow) (n : ℕ) (row : SettingRow) → n + 1 ≡ length l → Some row ≡ slice_get l n → row.number ≡ last_order (settings_of l)
last_from [] n row long is = absurd (omega (arith, long))
last_from (x ∷ []) zero row long is = ap number_of (same_Some row x is)
last_from (x ∷ []) (suc n) row long is = absurd (omega (arith, long))
last_from (x ∷ y ∷ rest) zero row long is = absurd (omega (arith, long))
last_from (x ∷ y ∷ rest) (suc n) row long is = last_from (y ∷ rest) n row (omega (arith, long)) is

pub last_is : (l : List SettingRow) (row : SettingRow) → Some row ≡ slice_get l (length l - 1) → row.number ≡ last_order (settings_of l)
last_is [] row is = absurd (none-some row (sym is))
last_is (x ∷ rest) row is = last_from (x ∷ rest) (length (x ∷ rest) - 1) row (omega arith) is
