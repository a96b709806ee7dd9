use Rattle.std.proofs.Common.{All, arith, subst, take}
use Rattle.std.proofs.lemmas.List.{take_all}
use Rattle.std.proofs.lemmas.List.Elements.{All-more, All-weaker}
use Rattle.poll_book.specs.declared.rows.ReadingRow.{ReadingRow}
use Rattle.office_store.specs.Counting.{StandsBetween}
use Rattle.office_store.proofs.shown.span_of.Goals as goal

pub loop-reading-preserved : goal.loop-reading-preserved
loop-reading-preserved c =
    let now = StandsBetween c.min-from.result c.max-to.result in
    let rows = c.args.readings.now in
    let i = c.loop-reading.reading-index in
    let wider : (row : ReadingRow) → StandsBetween c.loop-reading.from c.loop-reading.to row → now row =
    λ row stands. (omega (arith, c.min-from.ensures, stands.0), omega (arith, c.max-to.ensures, stands.1)) in
    let here : now c.reading-item.result = (omega (arith, c.min-from.ensures), omega (arith, c.max-to.ensures)) in
    All-more now rows i c.reading-item.result c.loop-reading-test.true (All-weaker (StandsBetween c.loop-reading.from c.loop-reading.to) now wider (take i rows) c.loop-reading.invariant)
    (subst now c.reading-item.is here)

pub returns-clause-some : goal.returns-clause-some
returns-clause-some c =
    subst (All (StandsBetween c.loop-reading.from c.loop-reading.to)) (take_all c.loop-reading.reading-index c.args.readings.now c.loop-reading-test.false) c.loop-reading.invariant
