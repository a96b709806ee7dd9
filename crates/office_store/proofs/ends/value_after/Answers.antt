use Rattle.std.proofs.Common.{◌≤◌, ◌+◌, sym, ◌∙◌, arith}
use Rattle.office_store.proofs.Behind.{known_end, none_after}
use Rattle.office_store.proofs.ends.value_after.Goals as goal

pub returns-in-Some-clause-value : goal.returns-in-Some-clause-value
returns-in-Some-clause-value g c clean kept holds ends =
    let known = c.args.point.now in
    let stop = c.in-Some.end in
    let behind : stop ≤ c.args.slot + 1 = omega (arith, c.if-end-from.true, c.from.ensures) in
    sym (none_after known c.args.slot stop kept.readings (known_end c.args.ends.now.known.items kept.readings known.number stop (ends clean) (sym c.at.ensures ∙ c.in-Some.is)) behind)
