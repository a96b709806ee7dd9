-- Whether the order of a change is the next one or is settled.
use Rattle.std.proofs.Common.{◌≡◌, ◌+◌, Some, refl}
use Rattle.poll_book.specs.declared.rows.OrderState.{OrderState}
use Rattle.poll_book.specs.declared.rows.OrderState.TheVariants.{Waiting, Done, Refused}
use Rattle.poll_book.specs.declared.rows.SettingRow.{SettingRow}
use Rattle.poll_book.specs.Changes.{IsNextOrSettledAs}
use Rattle.poll_book.specs.Orders.{Settings, is_waiting, last_order, setting_at}

pub next_of : (table : Settings) (row : SettingRow) → row.state ≡ Waiting → IsNextOrSettledAs (is_waiting row.state) table row → row.number ≡ last_order table + 1
next_of table row waits next = rw waits at next

pub settled_of : (table : Settings) (row : SettingRow) → (row.state ≡ Waiting → ⊥) → IsNextOrSettledAs (is_waiting row.state) table row
    → setting_at table row.number ≡ Some (record { point = row.point; words = row.words; state = Waiting })
settled_of table row not next = by row.state not next
  where
    by : (s : OrderState) → (s ≡ Waiting → ⊥) → IsNextOrSettledAs (is_waiting s) table row → setting_at table row.number ≡ Some (record { point = row.point; words = row.words; state = Waiting })
    by Waiting not next = absurd (not refl)
    by Done not next = next
    by (Refused code) not next = next
