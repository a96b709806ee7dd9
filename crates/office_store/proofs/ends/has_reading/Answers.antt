use Rattle.std.proofs.Common.{◌≤◌, ap, arith, sym}
use Rattle.std.specs.Prelude.{is_some}
use Rattle.office_store.proofs.Behind.{none_at}
use Rattle.office_store.proofs.ends.has_reading.Goals as goal

pub returns-then-end-from-clause-value : goal.returns-then-end-from-clause-value
returns-then-end-from-clause-value g c clean kept holds ends =
    let stop = c.in_ok-end.end in
    let behind : stop ≤ c.args.slot = omega (arith, c.if-end-from.true, c.from.ensures) in
    sym (ap is_some (none_at c.args.point c.args.slot stop kept.readings (c.in_ok-end.ensures.value clean kept holds ends) behind))
