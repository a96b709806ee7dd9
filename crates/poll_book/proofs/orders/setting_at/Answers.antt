use Rattle.std.proofs.Common.{Some, sym, ap, ◌∙◌}
use Rattle.poll_book.specs.declared.rows.Setting.{Setting}
use Rattle.poll_book.specs.declared.rows.SettingRow.{SettingRow}
use Rattle.poll_book.specs.Orders.{as_setting}
use Rattle.poll_book.proofs.Numbers.{find_here, find_none}
use Rattle.poll_book.proofs.orders.setting_at.Goals as goal

pub returns-in_default : goal.returns-in_default
returns-in_default c = sym (find_none c.args.number c.args.orders.now c.in_default.field-0 c.in_default.ensures.absent)

pub returns : goal.returns
returns c =
    let row = c.index-orders-place.result in
    ap (λ w. Some (let copy : Setting = record { point = row.point; words = w; state = row.state } in copy)) c.in_ok-clone.ensures.cases
    ∙ ap (λ (r : SettingRow). Some (as_setting r).1) c.index-orders-place.is
    ∙ sym (find_here c.args.number c.args.orders.now c.in-Ok.place row c.in-Ok.ensures.found)
