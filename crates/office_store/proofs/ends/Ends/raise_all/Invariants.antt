use Rattle.std.proofs.Common.{take}
use Rattle.poll_book.specs.Changes.{as_rows}
use Rattle.poll_book.specs.Tables.{Key}
use Rattle.office_store.specs.Ends.{AreEnds, IsWithin}
use Rattle.office_store.proofs.ends.Ends.raise_all.Given as goal

abbrev pub invariant-loop-row : goal.invariant-loop-row
invariant-loop-row l = record {
  same : (key : Key) → IsWithin l.fn.self.known.items key → IsWithin l.self.known.items key;
  within : AreEnds l.self.known.items (as_rows (take l.row-index l.readings));
}
