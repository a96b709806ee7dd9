use Rattle.std.proofs.Common.{sym, ap, ◌∙◌}
use Rattle.poll_book.specs.Histories.{slots_of}
use Rattle.poll_book.proofs.Puts.{own_at, own_gap}
use Rattle.poll_book.proofs.histories.slots_in.Goals as goal

pub returns-in-Ok-clause-own : goal.returns-in-Ok-clause-own
returns-in-Ok-clause-own c =
    ap (slots_of c.args.point) c.as_slice.ensures.value
    ∙ sym (own_at c.args.point c.args.histories.now c.in-Ok.place c.index-histories-place.result c.in-Ok.ensures.found)

pub returns-in-Err-clause-own : goal.returns-in-Err-clause-own
returns-in-Err-clause-own c = sym (own_gap c.args.point c.args.histories.now c.in-Err.field-0 c.in-Err.ensures.absent)
