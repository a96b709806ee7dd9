-- The oldest order that waits on a device.
use Rattle.std.proofs.Common.{◌≡◌, ◌∙◌, ℕ, List, true, Option, Some, None, refl, sym, ap}
use Rattle.std.specs.Prelude.{is_some, option_map}
use Rattle.poll_book.specs.declared.rows.Setting.{Setting}
use Rattle.poll_book.specs.declared.rows.SettingRow.{SettingRow}
use Rattle.poll_book.specs.Orders.{as_setting}
use Rattle.office_core.specs.History.{History, Send}
use Rattle.office_net.specs.Kinds.{IsOldest, Sends, number_in}
use Rattle.office_net.specs.Moves.{next_order, number_of}

abbrev number_of_row : SettingRow → ℕ
number_of_row row = row.number

-- the one that the office found, or none
pub oldest_found : (found was : Option SettingRow) (now : History) (device : List ℕ) → found ≡ was → option_map as_setting found ≡ next_order now device
    → IsOldest now device (option_map number_of_row was)
oldest_found found None now device is value = ap (option_map number_in) (ap (option_map as_setting) (sym is) ∙ value)
oldest_found found (Some row) now device is value = ap (option_map number_in) (ap (option_map as_setting) (sym is) ∙ value)

waits : (number : ℕ) (order : Option (ℕ × Setting)) → Some number ≡ option_map number_in order → is_some order ≡ true
waits number None is = absurd (cc)
waits number (Some row) is = refl

is_number : (number : ℕ) (order : Option (ℕ × Setting)) → Some number ≡ option_map number_in order → number ≡ number_of order
is_number number None is = absurd (cc)
is_number number (Some row) is = cc

-- the order of this number is sent
pub oldest_is_sent : (conn number : ℕ) (device : List ℕ) (now : History) → IsOldest now device (Some number) → Sends conn device now (Send conn number)
oldest_is_sent conn number device now oldest = (waits number (next_order now device) oldest, ap (Send conn) (is_number number (next_order now device) oldest))
