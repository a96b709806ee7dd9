-- What is known of the counters of a line.
use Rattle.std.specs.Prelude.{ℕ, Bool, true, false, nat_lt, not, if◌then◌else◌, Option, Some, None}
use Rattle.run_lines.specs.declared.ahead.Ahead.{Ahead}
use Rattle.run_lines.specs.declared.ahead.Outlook.{Outlook}
use Rattle.run_lines.specs.declared.ahead.Outlook.TheVariants as outlook

-- a slot may be begun
abbrev pub admits : ℕ → Outlook → Bool
admits slot outlook.Unknown = false
admits slot outlook.Clear = true
admits slot (outlook.Ahead ahead) = not (nat_lt slot ahead.slot)

-- the counter that is counted in a later slot
abbrev pub ahead_of : ℕ → Outlook → Option Ahead
ahead_of slot (outlook.Ahead ahead) = if nat_lt slot ahead.slot then Some ahead else None
ahead_of slot _ = None

-- once a slot was voided
abbrev pub doubted : Outlook → Outlook
doubted (outlook.Ahead ahead) = outlook.Unknown
doubted known = known
