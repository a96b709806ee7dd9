-- What ends a command: its text on standard error, behind the program's name, and the program's status.
use Rattle.std.specs.Prelude.{ℕ, List, ◌++◌, codes}
use Rattle.poll_book.specs.Fault.{fault_text}
use Rattle.office_commands.specs.declared.fault.Fault.{Fault}
use Rattle.office_commands.specs.declared.fault.Fault.TheVariants as fault

abbrev pub told_text : Fault → List ℕ
told_text fault.Command = codes "command"
told_text fault.BadSite = codes "bad site"
told_text fault.BadList = codes "bad list"
told_text fault.Unknown = codes "unknown"
told_text fault.FrameLine = codes "frames"
told_text fault.File = codes "file"
told_text fault.Line = codes "line"
told_text fault.Noise = codes "noise"
told_text fault.Frames = codes "frames"
told_text fault.NoMarker = codes "no marker"
told_text fault.PastEnd = codes "past end"
told_text fault.TooManyModels = codes "too many models"
told_text fault.Memory = codes "memory"
told_text (fault.Store cause) = codes "store " ++ fault_text cause
told_text fault.BadVersion = codes "bad version"
told_text fault.NotOffice = codes "not an office"
told_text fault.SiteDiffers = codes "site differs"

-- 2 for what was written wrong, 1 for what failed
abbrev pub status_of : Fault → ℕ
status_of fault.Command = 2
status_of fault.BadSite = 2
status_of fault.BadList = 2
status_of fault.Unknown = 2
status_of fault.FrameLine = 2
status_of _ = 1
