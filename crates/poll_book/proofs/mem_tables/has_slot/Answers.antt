use Rattle.std.proofs.Common.{◌∙◌}
use Rattle.poll_book.proofs.Puts.{has_slot}
use Rattle.poll_book.proofs.mem_tables.has_slot.Goals as goal

pub returns : goal.returns
returns c point =
    c.is_ok.ensures.value ∙ has_slot point c.args.slot c.args.slots.now c.slot_place.result c.slot_place.ensures.found c.slot_place.ensures.absent
