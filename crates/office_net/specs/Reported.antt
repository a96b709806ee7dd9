-- Why a report was refused.
use Rattle.poll_book.specs.declared.fault.StoreFault.{StoreFault}
use Rattle.poll_book.specs.declared.fault.StoreFault.TheVariants.{Memory, Other}
use Rattle.office_report.specs.declared.fault.ReportFault.{ReportFault}
use Rattle.office_report.specs.declared.fault.ReportFault.TheVariants as report

-- the fault of the store or memory; where no writer is, none is a writer's
abbrev pub store_fault : ReportFault → StoreFault
store_fault (report.Store refused) = refused
store_fault report.Memory = Memory
store_fault report.Write = Other
