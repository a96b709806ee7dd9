-- Where registers are read from: what a read answers, and how failures count.
use Rattle.std.specs.Prelude.{◌≡◌, ◌⊎◌, ℕ, ◌+◌, ◌-◌, ◌^◌, ◌<◌, ◌≤◌, nat_lt, List, Option, Some, None, Result, IfErr, length, get_or, if◌then◌else◌}

-- a map from addresses to registers
abbrev pub Image : Type 0
Image = ℕ → Option ℕ

-- the register at an address, of which there are 65,536
abbrev pub register_at : Image → ℕ → Option ℕ
register_at image address = if nat_lt address 65536 then image address else None

-- these registers stand from an address on
abbrev pub Stand : Image → ℕ → List ℕ → Type 0
Stand image start words = (k : ℕ) → k < length words → register_at image (start + k) ≡ Some (get_or words k 0)

-- what a read of an image gives: all its registers, or none where one of them isn't there
abbrev pub IsRead : Image → ℕ → ℕ → Option (List ℕ) → Type 0
IsRead image start quantity (Some words) = (length words ≡ quantity) × Stand image start words
IsRead image start quantity None = (k : ℕ) × (k < quantity) × (register_at image (start + k) ≡ None)

-- the count of failures rose, or stands at its greatest value, at which it says nothing
abbrev pub HasFailed : ℕ → ℕ → Type 0
HasFailed old new = (old < new) ⊎ (2 ^ 64 - 1 ≤ new)

-- the count never falls, and a fault comes only where it rose
abbrev pub CountsFailures : {T E : Type 0} → ℕ → ℕ → Result T E → Type 0
CountsFailures old new result = (old ≤ new) × IfErr result (λ _. HasFailed old new)
