use Rattle.std.proofs.Common.{ap, ◌∙◌}
use Rattle.std.specs.Prelude.{option_map}
use Rattle.poll_book.specs.Histories.{as_entry, slot_behind}
use Rattle.poll_book.proofs.Ends.{end_of_slots}
use Rattle.poll_book.proofs.mem_tables.slots_end.Goals as goal

pub returns-in-Some-clause-value : goal.returns-in-Some-clause-value
returns-in-Some-clause-value c point =
    c.behind.ensures.value ∙ ap (λ o. slot_behind (option_map (as_entry point) o)) c.in-Some.ensures.value ∙ end_of_slots point c.args.slots.now

pub returns-in-None-clause-value : goal.returns-in-None-clause-value
returns-in-None-clause-value c point =
    ap (λ o. slot_behind (option_map (as_entry point) o)) c.in-None.ensures.value ∙ end_of_slots point c.args.slots.now
