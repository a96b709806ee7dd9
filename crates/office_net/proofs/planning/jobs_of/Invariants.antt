use Rattle.std.proofs.Common.{take}
use Rattle.std.specs.Prelude.{All, ◌==◌, filter}
use Rattle.point_list.specs.declared.site.Device.{Device}
use Rattle.read_planner.specs.Place.{CanBeRead}
use Rattle.poll_book.specs.declared.rows.PointRow.{PointRow}
use Rattle.office_net.specs.Jobs.{AreDeviceJobs}
use Rattle.office_net.proofs.planning.jobs_of.Given as goal

abbrev pub invariant-loop-device : goal.invariant-loop-device
invariant-loop-device l = record {
  added : All (λ (row : PointRow). CanBeRead row.point) l.known
      → AreDeviceJobs l.known (filter (λ (device : Device). device.line == l.line) (take l.device-index l.site.devices)) l.all.items;
}
