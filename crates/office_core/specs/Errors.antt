-- How refusals are told, and what causes them.
use Rattle.poll_book.specs.declared.fault.StoreFault.{StoreFault}
use Rattle.poll_book.specs.declared.fault.StoreFault.TheVariants as fault
use Rattle.poll_book.specs.Fault.{HasRisen}
use Rattle.std.specs.Prelude.{ℕ, Bool, true, false, ⊤}
use Rattle.poll_match.specs.declared.error.MatchError.{MatchError}
use Rattle.poll_match.specs.declared.error.MatchError.TheVariants as matching
use Rattle.office_core.specs.declared.error.OfficeError.{OfficeError}
use Rattle.office_core.specs.declared.error.OfficeError.TheVariants as error

abbrev pub refused_store : StoreFault → OfficeError
refused_store f = error.Store f

abbrev pub no_memory : OfficeError
no_memory = error.Store fault.Memory

abbrev pub refused_by : MatchError → OfficeError
refused_by matching.NoConnection = error.NoConnection
refused_by matching.NoQuery = error.NoQuery
refused_by matching.WrongUnit = error.WrongUnit
refused_by matching.Repeat = error.Repeat
refused_by matching.WrongReply = error.WrongReply
refused_by matching.Exhausted = error.Exhausted
refused_by matching.Memory = no_memory

abbrev pub is_of_store : OfficeError → Bool
is_of_store (error.Store f) = true
is_of_store _ = false

-- the keeper may answer this fault, and counted a refusal
abbrev pub IsCounted : (StoreFault → Type 0) → ℕ → ℕ → StoreFault → Type 0
IsCounted may_refuse old new fault = may_refuse fault × HasRisen old new

-- a refusal that isn't the store's, or one by a fault that has a cause
abbrev pub IsCaused : (StoreFault → Type 0) → OfficeError → Type 0
IsCaused cause (error.Store f) = cause f
IsCaused cause _ = ⊤

-- a refusal by the store alone, which has a cause
abbrev pub IsOfStore : (StoreFault → Type 0) → OfficeError → Type 0
IsOfStore cause (error.Store f) = cause f
IsOfStore cause _ = ⊥
