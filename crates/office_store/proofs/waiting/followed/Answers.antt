use Rattle.std.proofs.Common.{Option, subst, sym}
use Rattle.poll_book.specs.declared.rows.SettingRow.{SettingRow}
use Rattle.poll_book.specs.Changes.{IsNextOrSettled, with_order}
use Rattle.office_store.specs.Waiting.{AreRead}
use Rattle.office_store.proofs.waiting.followed.Goals as goal

pub returns-in-Some-Some-clause-written : goal.returns-in-Some-Some-clause-written
returns-in-Some-Some-clause-written c written points table new read =
    let next = subst (IsNextOrSettled table) c.in-Some-Some.is-1 new in
    let orders = subst (AreRead points table) c.in-Some-Some.is-0 read in
    subst (λ (order : Option SettingRow). AreRead points (with_order order table) c.with_change.result) (sym c.in-Some-Some.is-1) (c.with_change.ensures points table next orders)
