use Rattle.std.proofs.Common.{ap, ◌∙◌}
use Rattle.office_core.specs.Offices.{last_reading_at, total_at}
use Rattle.office_core.proofs.Proceeding.{along_then}
use Rattle.office_net.proofs.Querying.{still_follows}
use Rattle.run_callers.proofs.looks.with_both.Goals as goal

pub returns-in_err-with_total-clause-along : goal.returns-in_err-with_total-clause-along
returns-in_err-with_total-clause-along g c =
    along_then c.args.office.now c.with_last.new.office c.with_total.new.office c.with_last.ensures.along c.with_total.ensures.along

pub returns-clause-along : goal.returns-clause-along
returns-clause-along g c =
    along_then c.args.office.now c.with_last.new.office c.with_total.new.office c.with_last.ensures.along c.with_total.ensures.along

pub returns-clause-seen : goal.returns-clause-seen
returns-clause-seen g c = λ clean now follows there.
    let between = still_follows c.with_last.new.office c.with_total.new.office c.with_total.ensures.along clean in
    let mid = still_follows c.args.office.now c.with_last.new.office c.with_last.ensures.along between.0 in
    let found = c.numbered_points.ensures.numbered now c.args.known.now there in
    record {
      point = c.in_ok-with_last.ensures.point;
      last = c.in_ok-with_last.ensures.last between.0 now follows ∙ ap (last_reading_at now) found;
      total = c.in_ok-with_total.ensures.total clean now (mid.1 now follows).0 ∙ ap (total_at now) found;
    }
