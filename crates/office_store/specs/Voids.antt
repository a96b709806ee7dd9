-- Which slots of a point are voided, as an answer shows them.
use Rattle.std.specs.Prelude.{◌≡◌, ◌≤◌, ◌==◌, ℕ, Bool, false, option_map, unwrap_or}
use Rattle.std.specs.Ordering.{nat_cmp}
use Rattle.std.specs.BTreeSet.{BTreeSet, contains}
use Rattle.sqlite_value.specs.Order.{Row, column}
use Rattle.poll_book.specs.Tables.{Voids, is_void}
use Rattle.office_store.specs.Rows.{number_of}

-- a row of an answer shows the slot
abbrev pub shows_slot : ℕ → Row → Bool
shows_slot slot row = unwrap_or (option_map (λ shown. shown == slot) (number_of (column row 1))) false

-- of the slots from the one to the other these are the point's voided ones
abbrev pub AreVoidsOf : ℕ → ℕ → ℕ → Voids → BTreeSet ℕ → Type 0
AreVoidsOf point from to voids slots = (slot : ℕ) → from ≤ slot → slot ≤ to → contains nat_cmp slots slot ≡ is_void voids (point, slot)
