use Rattle.std.proofs.Common.{List, subst, take}
use Rattle.std.proofs.lemmas.List.{take_all}
use Rattle.poll_book.specs.declared.rows.ReadingRow.{ReadingRow}
use Rattle.poll_book.specs.Changes.{as_row, as_rows}
use Rattle.office_store.specs.Ends.{AreEnds, IsWithin}
use Rattle.office_store.proofs.Behind.{one_more, still}
use Rattle.office_store.proofs.ends.Ends.raise_all.Goals as goal

pub loop-row-preserved : goal.loop-row-preserved
loop-row-preserved c =
    let was = c.loop-row.invariant in
    let made = c.raise.ensures in
    let ends = c.raise.new.self.known.items in
    let i = c.loop-row.row-index in
    let here = subst (λ (row : ReadingRow). IsWithin ends (as_row row).0) c.row-item.is made.within in
    record {
      same = λ key within. made.same key (was.same key within);
      within = one_more ends c.args.readings.now i c.row-item.result c.loop-row-test.true (still c.loop-row.self.known.items ends made.same (as_rows (take i c.args.readings.now)) was.within) here;
    }

pub returns-clause-within : goal.returns-clause-within
returns-clause-within c =
    subst (λ (rows : List ReadingRow). AreEnds c.loop-row.self.known.items (as_rows rows)) (take_all c.loop-row.row-index c.args.readings.now c.loop-row-test.false) c.loop-row.invariant.within
