use Rattle.std.proofs.Common.{◌≡◌, map, take}
use Rattle.poll_book.specs.Tables.{readings_between}
use Rattle.poll_book.specs.Showing.{as_shown, with_marks}
use Rattle.poll_book.specs.Histories.{slots_of}
use Rattle.poll_book.proofs.mem_tables.shown_between.Given as goal

abbrev pub invariant-loop-row : goal.invariant-loop-row
invariant-loop-row l = map as_shown l.shown.items ≡ with_marks l.voids.entries (readings_between l.point l.from l.to (slots_of l.point (take l.row-index l.slots)))
