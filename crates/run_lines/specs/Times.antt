-- What time it is in a turn.
use Rattle.std.specs.Prelude.{ℕ, Bool, ◌*◌, ◌-◌, ◌/◌, nat_le, Option, Some, None, if◌then◌else◌}
use Rattle.run_lines.specs.declared.times.Times.{Times}

-- the slot at its time
abbrev pub clock_slot : Times → ℕ
clock_slot times = times.slot

-- the slot that may be begun: none while the clock is held
abbrev pub slot_in : Times → Option ℕ
slot_in times = if times.is_held then None else Some times.slot

-- a slot begins in a day or later
abbrev pub is_far : ℕ → Times → Bool
is_far slot times = nat_le 86400 (slot * times.slots - times.clock / 1000)
