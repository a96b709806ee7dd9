use Rattle.std.proofs.Common.{◌≡◌, ◌+◌, suc, drop, ap, ◌∙◌, arith}
use Rattle.std.proofs.lemmas.List.{take_rest}
use Rattle.poll_book.specs.Histories.{counted_in}
use Rattle.poll_book.proofs.Slots.{after_here, after_gap}
use Rattle.poll_book.proofs.nearest.slots_after.Goals as goal

pub returns-in-Ok : goal.returns-in-Ok
returns-in-Ok c known =
    let slots = c.args.slots.now in
    let next : c.in-Ok.place + 1 ≡ suc c.in-Ok.place = omega arith in
    ap (counted_in known.point) (take_rest slots (c.in-Ok.place + 1) ∙ ap (λ n. drop n slots) next) ∙ after_here known c.args.slot slots c.in-Ok.place c.in-Ok.ensures.found

pub returns-in-Err : goal.returns-in-Err
returns-in-Err c known =
    ap (counted_in known.point) (take_rest c.args.slots.now c.in-Err.place) ∙ after_gap known c.args.slot c.args.slots.now c.in-Err.place c.in-Err.ensures.absent
