-- Passes over lines, or over callers.
use Rattle.std.specs.Prelude.{ℕ, ◌+◌, ◌^◌, ◌%◌, Bool, true, false, not, ◌&&◌, nat_lt, ◌==◌, if◌then◌else◌}
use Rattle.run_beat.specs.Times.{later}
use Rattle.office_run.specs.declared.pass.Pass.{Pass}

-- a turn begins
abbrev pub begun : ℕ → Pass → Pass
begun now pass = record pass { number = if pass.is_owed then pass.number else (pass.number + 1) % (2 ^ 64); until = later now 5; is_owed = false }

-- it had no turn in this pass
abbrev pub is_due : ℕ → Pass → Bool
is_due served pass = not (served == pass.number)

-- it had none, and there is time for it
abbrev pub admits : ℕ → ℕ → Pass → Bool
admits served now pass = is_due served pass && nat_lt now pass.until

-- one that had none, and for which there is no time, is owed
abbrev pub judged : ℕ → ℕ → Pass → Pass
judged served now pass = if is_due served pass && not (nat_lt now pass.until) then record pass { is_owed = true } else pass
