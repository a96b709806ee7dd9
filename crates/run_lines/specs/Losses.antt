-- Why something about a line doesn't go on.
use Rattle.office_core.specs.declared.error.OfficeError.{OfficeError}
use Rattle.office_core.specs.declared.error.OfficeError.TheVariants.{Store}
use Rattle.run_lines.specs.declared.loss.Loss.TheVariants.{Office}
use Rattle.run_lines.specs.declared.loss.Stop.{Stop}
use Rattle.run_lines.specs.declared.loss.Stop.TheVariants.{Lost, Refused}

-- what the store refuses leaves the connection as it is; with what else is refused nothing is to be asked over it
abbrev pub stop_of : OfficeError → Stop
stop_of (Store fault) = Refused fault
stop_of error = Lost (Office error)
