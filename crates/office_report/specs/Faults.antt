-- Why reports aren't written.
use Rattle.std.specs.Prelude.{Bool, true, false, Result, Ok, Err, ⊤}
use Rattle.poll_book.specs.declared.fault.StoreFault.{StoreFault}
use Rattle.poll_book.specs.declared.fault.StoreFault.TheVariants.{Other}
use Rattle.office_core.specs.declared.error.OfficeError.{OfficeError}
use Rattle.office_core.specs.declared.error.OfficeError.TheVariants as error
use Rattle.office_report.specs.declared.fault.ReportFault.{ReportFault}
use Rattle.office_report.specs.declared.fault.ReportFault.TheVariants.{Write, Store, Memory}

-- the refusal of a query, which is the store's
abbrev pub fault_by : OfficeError → ReportFault
fault_by (error.Store refused) = Store refused
fault_by _ = Store Other

-- a fault of the writer or of the store has its cause
abbrev pub IsCaused : Type 0 → (StoreFault → Type 0) → ReportFault → Type 0
IsCaused writer store Write = writer
IsCaused writer store (Store refused) = store refused
IsCaused writer store Memory = ⊤

-- something was written, or may have been before the writer failed
abbrev pub may_have_written : Result Bool ReportFault → Bool
may_have_written (Ok told) = told
may_have_written (Err Write) = true
may_have_written (Err _) = false
