-- What the faults of the libraries end a command with.
use Rattle.sunspec.specs.declared.error.SunError.{SunError}
use Rattle.sunspec.specs.declared.error.SunError.TheVariants as sun
use Rattle.mb_map.specs.declared.error.MapError.{MapError}
use Rattle.mb_map.specs.declared.error.MapError.TheVariants as map
use Rattle.point_list.specs.declared.error.ListFault.{ListFault}
use Rattle.point_list.specs.declared.error.ListFault.TheVariants as list
use Rattle.point_list.specs.declared.site_error.SiteFault.{SiteFault}
use Rattle.point_list.specs.declared.site_error.SiteFault.TheVariants as site
use Rattle.mb_map.specs.declared.image_error.ImageFault.{ImageFault}
use Rattle.mb_map.specs.declared.image_error.ImageFault.TheVariants as image
use Rattle.office_core.specs.declared.error.OfficeError.{OfficeError}
use Rattle.office_core.specs.declared.error.OfficeError.TheVariants as office
use Rattle.office_net.specs.declared.fault.PollFault.{PollFault}
use Rattle.office_net.specs.declared.fault.PollFault.TheVariants as poll
use Rattle.office_report.specs.declared.fault.ReportFault.{ReportFault}
use Rattle.office_report.specs.declared.fault.ReportFault.TheVariants as report
use Rattle.office_script.specs.declared.player.ReplayFault.{ReplayFault}
use Rattle.office_script.specs.declared.player.ReplayFault.TheVariants as replay
use Rattle.office_commands.specs.declared.fault.Fault.{Fault}
use Rattle.office_commands.specs.declared.fault.Fault.TheVariants as fault
use Rattle.office_commands.specs.declared.simulating.LinesFault.{LinesFault}
use Rattle.office_commands.specs.declared.simulating.LinesFault.TheVariants as lines

-- a line or a device that the site lacks is unknown; what else the office refuses is the connection's, but for its store and its points
abbrev pub of_office : OfficeError → Fault
of_office (office.Store cause) = fault.Store cause
of_office office.SiteDiffers = fault.SiteDiffers
of_office office.WrongLine = fault.Unknown
of_office _ = fault.Line

abbrev pub of_poll : PollFault → Fault
of_poll poll.Line = fault.Line
of_poll poll.Closed = fault.Line
of_poll poll.Noise = fault.Noise
of_poll (poll.Frames cause) = fault.Frames
of_poll (poll.Store cause) = fault.Store cause
of_poll poll.Memory = fault.Memory

abbrev pub of_report : ReportFault → Fault
of_report report.Write = fault.File
of_report (report.Store cause) = fault.Store cause
of_report report.Memory = fault.Memory

abbrev pub of_replay : ReplayFault → Fault
of_replay replay.Read = fault.File
of_replay replay.Write = fault.File
of_replay replay.Memory = fault.Memory

-- a list is bad for any fault of its own
abbrev pub of_list : ListFault → Fault
of_list list.Memory = fault.Memory
of_list list.BadSite = fault.BadSite
of_list _ = fault.BadList

-- where a device's chain of models can't be read the connection failed
abbrev pub of_sun : SunError → Fault
of_sun sun.NoMarker = fault.NoMarker
of_sun sun.PastEnd = fault.PastEnd
of_sun sun.TooManyModels = fault.TooManyModels
of_sun sun.Memory = fault.Memory
of_sun _ = fault.Line

abbrev pub of_map : MapError → Fault
of_map map.Memory = fault.Memory
of_map _ = fault.File

-- a site file or a simulator file is bad for any fault of its own
abbrev pub of_site : SiteFault → Fault
of_site site.Memory = fault.Memory
of_site _ = fault.BadSite

abbrev pub of_image : ImageFault → Fault
of_image image.Memory = fault.Memory
of_image _ = fault.File

abbrev pub of_lines : LinesFault → Fault
of_lines lines.Read = fault.File
of_lines lines.Write = fault.File
of_lines (lines.NoFrame number) = fault.FrameLine
of_lines lines.Noise = fault.Noise
of_lines lines.Memory = fault.Memory
