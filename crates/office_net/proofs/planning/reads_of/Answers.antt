use Rattle.std.proofs.Common.{◌∙◌, ap, subst}
use Rattle.office_net.specs.Jobs.{ArePlanned, points_on, readable}
use Rattle.office_net.proofs.Planned.{planned_for}
use Rattle.office_net.proofs.Readable.{none_left}
use Rattle.office_net.proofs.planning.reads_of.Goals as goal

pub returns-clause-others : goal.returns-clause-others
returns-clause-others c =
    planned_for (readable c.args.known.now) c.args.device.now c.as_slice.result.now c.in_ok-reads.reads.items
    (c.as_slice.ensures.value ∙ c.in_ok-points.ensures.read ∙ ap (points_on (readable c.args.known.now)) c.as_str.ensures)
    c.in_ok-reads.ensures.allowed c.in_ok-reads.ensures.whole c.in_ok-reads.ensures.fewest c.in_ok-reads.ensures.chosen

pub returns-clause-all : goal.returns-clause-all
returns-clause-all c = λ all.
    subst (λ known. ArePlanned known c.args.device.now c.in_ok-reads.reads.items) (none_left c.args.known.now all) (returns-clause-others c)
