use Rattle.std.proofs.Common.{◌≡◌, ◌++◌, take}
use Rattle.office_net.specs.Jobs.{device_jobs}
use Rattle.office_net.proofs.planning.add_jobs.Given as goal

abbrev pub invariant-loop-read : goal.invariant-loop-read
invariant-loop-read l = record {
  added : l.all.items ≡ l.fn.all.items ++ device_jobs l.device (take l.read-index l.reads);
}
