use Rattle.std.proofs.Common.{◌∙◌, List, map, subst, sym}
use Rattle.office_store.specs.declared.waiting.WaitingOrder.{WaitingOrder}
use Rattle.office_store.specs.Waiting.{AreOfTheirDevices, AreThose, entry_of}
use Rattle.office_store.proofs.LookedUp.{not_yet, their_entries}
use Rattle.office_store.proofs.waiting.those_of.Goals as goal

pub returns-in_ok-not_looked_up-in-None-clause-value : goal.returns-in_ok-not_looked_up-in-None-clause-value
returns-in_ok-not_looked_up-in-None-clause-value g c clean kept holds =
    let rows = c.in_ok-all_waiting-in-None.field-0.items in
    let read = c.in_ok-all_waiting-in-None.ensures.value clean kept (λ was_clean opened. (holds was_clean).0 opened) in
    subst (λ (orders : List WaitingOrder). AreThose kept.settings (map entry_of orders) × AreOfTheirDevices kept.points orders) (sym c.in_ok-not_looked_up-in-None.ensures)
    ((read.0, their_entries rows ∙ read.1), not_yet kept.points rows)
