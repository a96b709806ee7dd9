use Rattle.std.proofs.Common.{Some, get_or, sym, ap, ◌∙◌}
use Rattle.poll_book.specs.declared.rows.Reading.{Reading}
use Rattle.poll_book.proofs.Puts.{find_slot, find_no_slot}
use Rattle.poll_book.proofs.mem_tables.reading_at.Goals as goal

pub returns-in_default : goal.returns-in_default
returns-in_default c = sym (find_no_slot c.args.point c.args.slot c.args.slots.now c.in_default.field-0 c.in_default.ensures.absent)

pub returns : goal.returns
returns c =
    let old = (get_or c.args.slots.now c.in-Ok.place c.index-slots-place.result).reading in
    ap (λ w. Some (let copy : Reading = record { words = w; counted = old.counted } in copy)) c.in_ok-clone.ensures.cases
    ∙ sym (find_slot c.args.point c.args.slot c.args.slots.now c.in-Ok.place c.index-slots-place.result c.in-Ok.ensures.found)
