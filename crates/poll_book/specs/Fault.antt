-- The texts of a keeper's refusals, and their causes.
use Rattle.std.specs.Prelude.{◌≡◌, ◌⊎◌, ℕ, ◌+◌, ◌-◌, ◌^◌, ◌<◌, ◌≤◌, List, codes, Result, MatchResult, IfErr, OnOk}
use Rattle.poll_book.specs.declared.fault.StoreFault.{StoreFault}
use Rattle.poll_book.specs.declared.fault.StoreFault.TheVariants.{Memory, Full, Disk, Other}

abbrev pub fault_text : StoreFault → List ℕ
fault_text Memory = codes "memory"
fault_text Full = codes "full"
fault_text Disk = codes "disk"
fault_text Other = codes "other"

-- the next count, or the greatest one again
abbrev pub IsCountedOn : ℕ → ℕ → Type 0
IsCountedOn old new = (new ≡ old + 1) ⊎ ((new ≡ old) × (2 ^ 64 - 1 ≤ new))

-- a refused call is counted
abbrev pub CountsRefusal : {T E : Type 0} → ℕ → ℕ → Result T E → Type 0
CountsRefusal old new result = MatchResult result (λ _. new ≡ old) (λ _. IsCountedOn old new)

-- the count rose, or stands at the greatest count, at which it says nothing
abbrev pub HasRisen : ℕ → ℕ → Type 0
HasRisen old new = (old < new) ⊎ (2 ^ 64 - 1 ≤ new)

-- memory was refused, or the keeper may answer this fault and counted a refusal
abbrev pub HasCause : (StoreFault → Type 0) → ℕ → ℕ → StoreFault → Type 0
HasCause may_refuse old new fault = (fault ≡ Memory) ⊎ (may_refuse fault × HasRisen old new)

-- what a call that makes several of a keeper's calls accounts for: the count never falls, a refusal
-- has its cause, and a success counted no refusal
abbrev pub Accounts : {T : Type 0} → (StoreFault → Type 0) → ℕ → ℕ → Result T StoreFault → Type 0
Accounts may_refuse old new result = (old ≤ new) × IfErr result (HasCause may_refuse old new) × OnOk result (new ≡ old)
