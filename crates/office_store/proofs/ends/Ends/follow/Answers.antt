use Rattle.poll_book.specs.Changes.{as_rows}
use Rattle.office_store.proofs.Behind.{still, with_more}
use Rattle.office_store.proofs.ends.Ends.follow.Goals as goal

pub returns-then-is_written-clause-written : goal.returns-then-is_written-clause-written
returns-then-is_written-clause-written c written table are =
    let made = c.raise_all.ensures in
    let ends = c.raise_all.new.self.known.items in
    with_more ends (as_rows c.args.readings.now) table made.within (still c.args.self.now.known.items ends made.same table are)
