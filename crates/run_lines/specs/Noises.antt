-- What a line sends that answers nothing.
use Rattle.std.specs.Prelude.{◌≡◌, ℕ, ◌+◌, Bool, false, nat_lt, if◌then◌else◌, Option, Some, None}
use Rattle.run_beat.specs.Delays.{longer_than}
use Rattle.run_beat.specs.Times.{later}
use Rattle.run_lines.specs.declared.noise.Noise.{Noise}

-- a slot lies behind the one in which the line was cut, with a whole one between them
abbrev pub is_past : Option ℕ → ℕ → Bool
is_past None slot = false
is_past (Some cut) slot = nat_lt (cut + 1) slot

-- for how long it is left alone once it is cut, of which it was before this slot
abbrev pub delay_in : ℕ → Noise → ℕ
delay_in slot noise = if is_past noise.cut slot then 0 else noise.delay

-- the slot in which it was cut last, as long as that counts
abbrev pub cut_in : ℕ → Noise → Option ℕ
cut_in slot noise = if is_past noise.cut slot then None else noise.cut

-- nothing came in a slot yet
pub record IsBegun (slot : ℕ) (old new : Noise) : Type 0 where
  pub slot_is : new.slot ≡ slot
  pub refused : new.refused ≡ 0
  pub read : new.read ≡ 0
  pub cut : new.cut ≡ cut_in slot old
  pub delay : new.delay ≡ delay_in slot old
  pub until : new.until ≡ old.until

-- the line was cut at a moment
pub record IsCut (now : ℕ) (old new : Noise) : Type 0 where
  pub slot_is : new.slot ≡ old.slot
  pub cut : new.cut ≡ Some old.slot
  pub delay : new.delay ≡ longer_than old.delay
  pub until : new.until ≡ later now (longer_than old.delay)
  pub refused : new.refused ≡ 0
  pub read : new.read ≡ 0
