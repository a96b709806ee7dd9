-- Why rounds break off.
use Rattle.std.specs.Prelude.{◌≡◌, ◌⊎◌, ℕ, ◌<◌, ◌≤◌, List, length, Some, None, ⊤}
use Rattle.mb_mbap.specs.declared.counted.Counted.{Counted}
use Rattle.mb_mbap.specs.Counted.{count_limit, failures_of, ends_of, HasRisen}
use Rattle.mb_mbap.specs.Stream.{fault_of}
use Rattle.poll_book.specs.declared.fault.StoreFault.{StoreFault}
use Rattle.office_core.specs.declared.error.OfficeError.{OfficeError}
use Rattle.office_core.specs.declared.error.OfficeError.TheVariants as error
use Rattle.office_core.specs.History.{History, open_line, asked}
use Rattle.office_net.specs.declared.fault.PollFault.{PollFault}
use Rattle.office_net.specs.declared.fault.PollFault.TheVariants as fault

-- a refusal that ends a round: the store's, or that no query can be made over the connection
abbrev pub fault_by : OfficeError → PollFault
fault_by (error.Store refused) = fault.Store refused
fault_by _ = fault.Closed

-- the connection isn't open, or it made all its queries
abbrev pub IsClosed : History → ℕ → Type 0
IsClosed now conn = (open_line now conn ≡ None) ⊎ (4294967295 ≤ length (asked now conn))

-- this fault says that the connection is closed only where it is
abbrev pub ClosedBy : PollFault → History → ℕ → Type 0
ClosedBy fault.Closed now conn = IsClosed now conn
ClosedBy _ now conn = ⊤

-- the reader failed or ended, or the writer failed
abbrev pub LineFailed : {R W : Type 0} → Counted R → Counted R → Counted W → Counted W → Type 0
LineFailed reader reader' writer writer' =
    HasRisen (failures_of reader) (failures_of reader') ⊎ (HasRisen (ends_of reader) (ends_of reader') ⊎ HasRisen (failures_of writer) (failures_of writer'))

-- no call failed: the count didn't rise, and could have
abbrev pub NoneFailed : {T : Type 0} → Counted T → Counted T → Type 0
NoneFailed old new = (failures_of old < count_limit) × (failures_of new ≡ failures_of old)

-- a fault of the line or of the store has its cause, and there is none of the stream
abbrev pub IsCaused : Type 0 → (StoreFault → Type 0) → PollFault → Type 0
IsCaused line store fault.Line = line
IsCaused line store fault.Noise = ⊥
IsCaused line store (fault.Frames bad) = ⊥
IsCaused line store (fault.Store refused) = store refused
IsCaused line store fault.Memory = ⊤
IsCaused line store fault.Closed = ⊤

-- a fault of the line or of the store has its cause
abbrev pub HasCause : Type 0 → (StoreFault → Type 0) → PollFault → Type 0
HasCause line store fault.Line = line
HasCause line store (fault.Store refused) = store refused
HasCause line store _ = ⊤

-- so much was read, which ends so: too much, or what begins with a bad header
abbrev pub IsOfStream : List ℕ → List ℕ → PollFault → Type 0
IsOfStream read rest fault.Noise = 16777216 ≤ length read
IsOfStream read rest (fault.Frames bad) = fault_of rest ≡ Some bad
IsOfStream read rest _ = ⊤
