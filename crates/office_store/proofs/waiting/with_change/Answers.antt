use Rattle.std.proofs.Common.{◌≡◌, ◌++◌, ◌∷◌, [], List, Global, IfSome, None, Option, Some, Vec, map, subst, sym, true, ◌∙◌}
use Rattle.std.proofs.lemmas.List.Elements.{All-filter, All-push}
use Rattle.poll_book.specs.declared.rows.PointRow.{PointRow}
use Rattle.poll_book.specs.declared.rows.SettingRow.{SettingRow}
use Rattle.poll_book.specs.Changes.{IsNextOrSettledAs}
use Rattle.poll_book.specs.Orders.{Settings, as_setting, is_waiting, with_setting}
use Rattle.office_store.specs.declared.waiting.WaitingOrder.{WaitingOrder}
use Rattle.office_store.specs.Waiting.{AreOfTheirDevices, AreRead, AreThose, IsOfItsDevice, entry_of, is_other, not_looked_up}
use Rattle.office_store.proofs.Noting.{one_less, one_more}
use Rattle.office_store.proofs.waiting.with_change.Goals as goal

abbrev Are : List PointRow → Settings → List WaitingOrder → Type 0
Are points table orders = AreThose table (map entry_of orders) × AreOfTheirDevices points orders

more : (points : List PointRow) (table : Settings) (order : SettingRow) → IsNextOrSettledAs (is_waiting order.state) table order → (orders : List WaitingOrder) → Are points table orders
    → is_waiting order.state ≡ true → (made : Option (Vec WaitingOrder Global)) → IfSome made (λ all. all.items ≡ orders ++ not_looked_up order ∷ []) → AreRead points (with_setting order.number (as_setting order).1 table) made
more points table order new orders read waiting None is = tt
more points table order new orders read waiting (Some all) is =
    let after = with_setting order.number (as_setting order).1 table in
    subst (Are points after) (sym is) (one_more table order new orders read.0 waiting, All-push (IsOfItsDevice points) orders (not_looked_up order) read.1 tt)

pub returns-then-is_waiting : goal.returns-then-is_waiting
returns-then-is_waiting c points table new read =
    more points table c.args.order.now new c.args.orders.items read (sym c.is_waiting.ensures ∙ c.if-is_waiting.true) c.with_one.result c.with_one.ensures

pub returns-else-is_waiting : goal.returns-else-is_waiting
returns-else-is_waiting c points table new read =
    let order = c.args.order.now in
    let after = with_setting order.number (as_setting order).1 table in
    subst (Are points after) (sym c.without.ensures)
    (one_less table order new c.args.orders.items read.0 (sym c.is_waiting.ensures ∙ c.if-is_waiting.false), All-filter (is_other order.number) (IsOfItsDevice points) c.args.orders.items read.1)
