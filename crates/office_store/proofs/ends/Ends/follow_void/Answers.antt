use Rattle.std.proofs.Common.{Option, sym, subst}
use Rattle.poll_book.specs.declared.rows.VoidRow.{VoidRow}
use Rattle.poll_book.specs.Changes.{void_key, with_voided}
use Rattle.office_store.specs.Ends.{AreEnds}
use Rattle.office_store.proofs.Behind.{still, with_row_more}
use Rattle.office_store.proofs.ends.Ends.follow_void.Goals as goal

pub returns-in-Some-clause-same : goal.returns-in-Some-clause-same
returns-in-Some-clause-same c table are = still c.args.self.now.known.items c.raise.new.self.known.items c.raise.ensures.same table are

pub returns-in-Some-clause-voided : goal.returns-in-Some-clause-voided
returns-in-Some-clause-voided c table are =
    let made = c.raise.ensures in
    let ends = c.raise.new.self.known.items in
    let row = c.in-Some.row in
    subst (λ (void : Option VoidRow). AreEnds ends (with_voided void table)) (sym c.in-Some.is)
    (with_row_more ends (void_key row, tt) table made.within (still c.args.self.now.known.items ends made.same table are))
