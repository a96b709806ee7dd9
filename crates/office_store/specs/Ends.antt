-- Where the readings and the voids of points end, as it is known beside the tables.
use Rattle.std.specs.Prelude.{◌≡◌, ◌≢◌, ◌⊎◌, ◌+◌, ◌<◌, true, false, ℕ, pos, All, IfSome, List, [], ◌∷◌, Option, Some, None, slice_get, unwrap_or}
use Rattle.sqlite.specs.State.{State, HasCleanDisk, FailsToQuery}
use Rattle.sqlite_value.specs.declared.value.Value.TheVariants.{Int}
use Rattle.sqlite_value.specs.Order.{Row, column}
use Rattle.poll_book.specs.Tables.{Tables, Key, Voids, is_void}
use Rattle.poll_book.specs.declared.fault.StoreFault.{StoreFault}
use Rattle.office_store.specs.Faults.{fault_of}
use Rattle.office_store.specs.Rows.{number_of}
use Rattle.office_store.specs.Texts.{next_void_text}
use Rattle.office_store.specs.declared.voids.VoidsFrom.{VoidsFrom}
use Rattle.office_store.specs.declared.voids.VoidsFrom.TheVariants.{Here, Later, NoneLeft}

-- a slot that each row of the point stands before, if one is known
abbrev pub end_at : List (Option ℕ) → ℕ → Option ℕ
end_at ends point = unwrap_or (slice_get ends point) None

-- as far as it is known, rows under this key aren't behind the end of their point
abbrev pub IsWithin : List (Option ℕ) → Key → Type 0
IsWithin ends key = IfSome (end_at ends key.0) (λ end. key.1 < end)

-- nor is any row of the table
abbrev pub AreEnds : {V : Type 0} → List (Option ℕ) → List (Key × V) → Type 0
AreEnds ends table = All (λ row. IsWithin ends row.0) table

-- each row of the point stands before this slot
abbrev pub IsEndOf : {V : Type 0} → ℕ → ℕ → List (Key × V) → Type 0
IsEndOf point end table = All (λ row. row.0.0 ≡ point → row.0.1 < end) table

-- as far as its database has told the truth, the ends are those of these tables' readings
abbrev pub HasEnds : State → List (Option ℕ) → Tables → Type 0
HasEnds s ends kept = HasCleanDisk s → AreEnds ends kept.readings

-- or of their voids
abbrev pub HasVoidEnds : State → List (Option ℕ) → Tables → Type 0
HasVoidEnds s ends kept = HasCleanDisk s → AreEnds ends kept.voids

-- an answer shows no row, or the one that stands just before this slot
abbrev pub ShowEnd : List Row → ℕ → Type 0
ShowEnd [] end = end ≡ 0
ShowEnd (row ∷ rest) end = (slot : ℕ) × (number_of (column row 1) ≡ Some slot) × (end ≡ slot + 1)

-- an answer shows no row, one of just this slot, or another one
abbrev pub ShowFrom : ℕ → List Row → VoidsFrom → Type 0
ShowFrom slot [] told = told ≡ NoneLeft
ShowFrom slot (row ∷ rest) told = ((told ≡ Here) × (number_of (column row 1) ≡ Some slot)) ⊎ ((told ≡ Later) × (number_of (column row 1) ≢ Some slot))

-- the slot of the point is voided, it isn't, or each voided one of the point stands before it
abbrev pub TellsFrom : ℕ → ℕ → Voids → VoidsFrom → Type 0
TellsFrom point slot voids Here = is_void voids (point, slot) ≡ true
TellsFrom point slot voids Later = is_void voids (point, slot) ≡ false
TellsFrom point slot voids NoneLeft = IsEndOf point slot voids

-- the question for the next void of the point failed, for a cause that is told as this fault
abbrev pub FailsToTell : ℕ → ℕ → State → State → StoreFault → Type 0
FailsToTell point slot old new fault = (cause : _) × FailsToQuery next_void_text (Int (pos point) ∷ Int (pos slot) ∷ []) old new cause × (fault_of cause ≡ fault)
