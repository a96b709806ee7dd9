use Rattle.std.proofs.Common.{◌&&◌, rules, tests}
use Rattle.std.proofs.lemmas.Iterator.{items_from_collect, YieldsList-from_slice, YieldsList-from_map}
use Rattle.std.proofs.lemmas.Iterator.Consumers.{YieldsList-at, YieldsList-from_filter}
use Rattle.std.proofs.lemmas.Result.{IfOk-weaker}
use Rattle.std.specs.Str.{bytes_eq}
use Rattle.poll_book.specs.declared.rows.PointRow.{PointRow}
use Rattle.office_net.specs.Jobs.{can_read}
use Rattle.office_net.proofs.Chosen.{chosen}
use Rattle.office_net.proofs.planning.points_of.Goals as goal

pub returns-clause-read : goal.returns-clause-read
returns-clause-read c =
    let known = c.args.known.now in
    let device = c.args.device.now in
    IfOk-weaker c.collect.result _ _ (λ points. chosen known device points.items)
    (items_from_collect _ c.collect.ensures.ran
    (YieldsList-from_map _ (λ (row : PointRow). row.point)
    (YieldsList-at c.map.ensures.source (YieldsList-from_filter _ (λ (row : PointRow). bytes_eq row.point.device device && can_read row.point) (YieldsList-from_slice known cc) c.filter.ensures.closure (λ x b q called. search (rules, tests))))
    c.map.ensures.closure (λ x r q called. search (rules, tests))))
