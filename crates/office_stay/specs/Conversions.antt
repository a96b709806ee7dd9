-- What the faults of a run end its command with.
use Rattle.office_run.specs.declared.running.RunFault.{RunFault}
use Rattle.office_run.specs.declared.running.RunFault.TheVariants as run
use Rattle.office_commands.specs.declared.fault.Fault.{Fault}
use Rattle.office_commands.specs.declared.fault.Fault.TheVariants as fault

abbrev pub of_run : RunFault → Fault
of_run run.Memory = fault.Memory
of_run (run.Sockets cause) = fault.Line
of_run (run.Store cause) = fault.Store cause
of_run (run.Ahead point slot) = fault.Line
