-- What a round has to do.
use Rattle.std.specs.Prelude.{◌≡◌, ℕ, ◌+◌, ◌&&◌, Bool, true, ◌==◌, leb, List, [], ◌∷◌, ◌++◌, map, filter, Some, option_map}
use Rattle.std.specs.Str.{bytes_eq}
use Rattle.sunspec.specs.declared.point_type.PointType.{PointType}
use Rattle.sunspec.specs.declared.point_type.PointType.TheVariants.{Str}
use Rattle.point_list.specs.declared.point.Point.{Point}
use Rattle.point_list.specs.declared.site.Device.{Device}
use Rattle.point_list.specs.declared.site.Site.{Site}
use Rattle.point_list.specs.Sites.{device_named}
use Rattle.read_planner.specs.declared.Read.{Read as AskedRead}
use Rattle.read_planner.specs.Read.{is_valid_read}
use Rattle.read_planner.specs.Place.{places_of, size_of}
use Rattle.read_planner.specs.Allowed.{AreAllowed, AreFewest, HoldsAll}
use Rattle.read_planner.specs.Chosen.{AreChosen}
use Rattle.poll_book.specs.declared.rows.PointRow.{PointRow}
use Rattle.office_core.specs.Cover.{ends_in_time}
use Rattle.office_core.specs.History.{History, site_of, points, open_line}
use Rattle.office_net.specs.declared.job.LineJob.{LineJob}
use Rattle.office_net.specs.declared.job.LineJob.TheVariants.{Order, Read}

-- ---- the jobs of a line

-- a type that has 1 to 125 registers
abbrev pub has_size : PointType → Bool
has_size (Str registers) = leb 1 registers && leb registers 125
has_size _ = true

-- a point that a read can hold: its type has 1 to 125 registers, and it ends by the last address
abbrev pub can_read : Point → Bool
can_read point = has_size point.kind && leb (point.address + size_of point) 65536

-- those of the known points that a read can hold: all of them, where lists said them
abbrev pub readable : List PointRow → List PointRow
readable known = filter (λ (row : PointRow). can_read row.point) known

-- the known points of a device
abbrev pub points_on : List PointRow → List ℕ → List Point
points_on known device = map (λ (row : PointRow). row.point) (filter (λ (row : PointRow). bytes_eq row.point.device device) known)

-- the reads of a device: those that are planned for its known points, by its gap
pub record ArePlanned (known : List PointRow) (device : Device) (reads : List AskedRead) : Type 0 where
  pub allowed : AreAllowed (places_of (points_on known device.name)) device.gap reads
  pub whole : HoldsAll reads (places_of (points_on known device.name))
  pub fewest : AreFewest (places_of (points_on known device.name)) device.gap reads
  pub chosen : AreChosen (places_of (points_on known device.name)) device.gap reads

-- of a device its order first, and then its reads
abbrev pub device_jobs : List ℕ → List AskedRead → List LineJob
device_jobs name reads = Order name ∷ map (λ read. Read name read) reads

-- the jobs of these devices, of one device after the other
abbrev pub AreDeviceJobs : List PointRow → List Device → List LineJob → Type 0
AreDeviceJobs known [] jobs = jobs ≡ []
AreDeviceJobs known (device ∷ devices) jobs =
    (reads : List AskedRead) × (rest : List LineJob) × ArePlanned known device reads × AreDeviceJobs known devices rest
    × (jobs ≡ device_jobs device.name reads ++ rest)

-- the devices of a line, in the site's order
abbrev pub devices_on : Site → ℕ → List Device
devices_on site line = filter (λ (device : Device). device.line == line) site.devices

-- the jobs of the line of a connection that is open after a history
pub record AreJobs (before : History) (conn : ℕ) (jobs : List LineJob) : Type 0 where
  pub line : ℕ
  pub opened : open_line before conn ≡ Some line
  pub each : AreDeviceJobs (points before) (devices_on (site_of before) line) jobs

-- ---- jobs that can be done

-- the device of this name is one of the connection's line
abbrev pub IsOnLine : History → ℕ → List ℕ → Type 0
IsOnLine before conn name = option_map (λ (device : Device). device.line) (device_named (site_of before) name) ≡ open_line before conn

-- the job's device is one of the connection's line, and its read is within the limits
abbrev pub CanBeDone : History → ℕ → LineJob → Type 0
CanBeDone before conn (Order device) = IsOnLine before conn device
CanBeDone before conn (Read device read) = IsOnLine before conn device × (is_valid_read read ≡ true) × (ends_in_time read ≡ true)
