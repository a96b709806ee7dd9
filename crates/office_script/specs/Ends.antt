-- The texts of how a script ended, and of why it wasn't played.
use Rattle.std.specs.Prelude.{ℕ, List, ◌++◌, codes, decimal}
use Rattle.office_script.specs.declared.player.Replayed.{Replayed}
use Rattle.office_script.specs.declared.player.Replayed.TheVariants.{Done, FaultLine}
use Rattle.office_script.specs.declared.player.ReplayFault.{ReplayFault}
use Rattle.office_script.specs.declared.player.ReplayFault.TheVariants.{Read, Write, Memory}

abbrev pub ending_text : Replayed → List ℕ
ending_text Done = codes "done"
ending_text (FaultLine number) = codes "fault line " ++ decimal number

abbrev pub fault_text : ReplayFault → List ℕ
fault_text Read = codes "file"
fault_text Write = codes "file"
fault_text Memory = codes "memory"
