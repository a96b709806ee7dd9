use Rattle.std.proofs.Common.{[], ◌++◌, take, sym, ap, ◌∙◌, arith}
use Rattle.std.specs.List.{cons_option}
use Rattle.poll_book.specs.declared.history.SlotRow.{SlotRow}
use Rattle.poll_book.specs.Totals.{reading_number}
use Rattle.poll_book.specs.Histories.{counted_in}
use Rattle.poll_book.proofs.Slots.{first_here}
use Rattle.poll_book.proofs.Steps.{counted_more}
use Rattle.poll_book.proofs.nearest.first_counted.Goals as goal

pub returns-in-Some-clause-value : goal.returns-in-Some-clause-value
returns-in-Some-clause-value c =
    let point = c.args.point.now in
    first_here point c.args.slots.now c.loop-row.row-index c.row-item.result (omega (arith, c.loop-row-test.true)) c.in-Some.number c.loop-row.invariant
    (ap (λ (row : SlotRow). reading_number point row.reading) (sym c.row-item.is) ∙ sym c.number_of.ensures.number ∙ c.in-Some.is)

pub loop-row-preserved : goal.loop-row-preserved
loop-row-preserved c =
    let point = c.args.point.now in
    counted_more point c.args.slots.now c.loop-row.row-index c.row-item.result (omega (arith, c.loop-row-test.true))
    ∙ ap (λ o. counted_in point (take c.loop-row.row-index c.args.slots.now) ++ cons_option o [])
    (ap (λ (row : SlotRow). reading_number point row.reading) (sym c.row-item.is) ∙ sym c.number_of.ensures.number ∙ c.in_default.is)
    ∙ ap (λ xs. xs ++ []) c.loop-row.invariant
