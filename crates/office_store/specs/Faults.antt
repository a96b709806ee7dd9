-- What is told of an error of the database.
use Rattle.std.specs.Prelude.{◌≡◌, ◌⊎◌, ◌+◌, ◌-◌, ◌^◌, ◌≤◌, min, false, List, ℕ, codes, ⊤}
use Rattle.sqlite.specs.declared.error.Error.{Error}
use Rattle.sqlite.specs.declared.error.Error.TheVariants.{SqliteFailure}
use Rattle.sqlite.specs.declared.error.ErrorCode.{ErrorCode}
use Rattle.sqlite.specs.declared.error.ErrorCode.TheVariants as code
use Rattle.sqlite.specs.State.{State}
use Rattle.poll_book.specs.declared.fault.StoreFault.{StoreFault}
use Rattle.poll_book.specs.declared.fault.StoreFault.TheVariants.{Memory, Full, Disk, Other}
use Rattle.poll_book.specs.Fault.{fault_text}
use Rattle.office_store.specs.declared.error.StoreError.{StoreError}
use Rattle.office_store.specs.declared.error.StoreError.TheVariants.{Store, BadVersion, NotOffice}

abbrev pub fault_in : ErrorCode → StoreFault
fault_in code.OutOfMemory = Memory
fault_in code.DiskFull = Full
fault_in code.TooBig = Full
fault_in code.SystemIoFailure = Disk
fault_in code.DatabaseCorrupt = Disk
fault_in code.Closed = Disk
fault_in _ = Other

abbrev pub fault_of : Error → StoreFault
fault_of (SqliteFailure c) = fault_in c
fault_of _ = Other

-- the store was shut, or the disk failed: the count of its failures rose, or stands at the greatest count
abbrev pub HasFailed : State → State → Type 0
HasFailed old new = (old.is_open ≡ false) ⊎ (min (old.faults + 1) (2 ^ 64 - 1) ≤ new.faults)

-- a fault of the store itself in a call that reads: memory was refused to it, or it failed
abbrev pub IsOfStore : State → State → StoreFault → Type 0
IsOfStore old new Memory = ⊤
IsOfStore old new Full = HasFailed old new
IsOfStore old new Disk = HasFailed old new
IsOfStore old new Other = ⊥

-- a row isn't in its form, or memory was refused to what it shows
abbrev pub IsOfForm : StoreFault → Type 0
IsOfForm fault = (fault ≡ Memory) ⊎ (fault ≡ Other)

abbrev pub error_text : StoreError → List ℕ
error_text (Store fault) = fault_text fault
error_text BadVersion = codes "bad version"
error_text NotOffice = codes "not an office"
