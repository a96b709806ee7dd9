use Rattle.std.proofs.Common.{ap, ◌++◌, ◌∙◌}
use Rattle.office_net.specs.Jobs.{device_jobs}
use Rattle.office_net.proofs.planning.add_device.Goals as goal

pub returns-clause-own : goal.returns-clause-own
returns-clause-own c = λ own all. (
  c.in_ok-reads.reads.items,
  c.in_ok-reads.ensures.all all,
  c.in_ok-add_jobs.ensures ∙ ap (λ reads. c.args.all.now.items ++ device_jobs c.args.device.now.name reads) c.as_slice.ensures.value,
)
