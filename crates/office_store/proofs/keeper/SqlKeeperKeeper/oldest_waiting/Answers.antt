use Rattle.std.proofs.Common.{◌≡◌, IfOk, Option, Result, option_map, subst, sym}
use Rattle.poll_book.specs.declared.fault.StoreFault.{StoreFault}
use Rattle.poll_book.specs.declared.rows.SettingRow.{SettingRow}
use Rattle.poll_book.specs.Orders.{as_setting, oldest_waiting}
use Rattle.office_store.proofs.keeper.SqlKeeperKeeper.oldest_waiting.Goals as goal

pub returns-clause-value : goal.returns-clause-value
returns-clause-value g c clean kept held =
    let oldest = oldest_waiting kept.points c.args.device.now kept.settings in
    subst (λ (told : Result (Option SettingRow) StoreFault). IfOk told (λ found. option_map as_setting found ≡ oldest)) (sym c.counted.ensures.answer) (c.oldest_waiting-found.ensures.value clean kept held.0)

pub returns-clause-same : goal.returns-clause-same
returns-clause-same g c kept held =
    let done = c.oldest_waiting-found.ensures in
    (done.same kept held.0, λ clean. held.1 (done.keeps.clean clean), λ clean. held.2 (done.keeps.clean clean))
