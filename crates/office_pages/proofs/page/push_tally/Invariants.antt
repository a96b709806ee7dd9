use Rattle.std.specs.Prelude.{string_bytes}
use Rattle.office_pages.specs.Pieces.{Grows}
use Rattle.office_pages.proofs.page.push_tally.Given as goal

abbrev pub invariant-loop-number : goal.invariant-loop-number
invariant-loop-number l = Grows (string_bytes l.fn.out) (string_bytes l.out)
