use Rattle.std.proofs.Common.{◌∙◌, Option, sym, ap}
use Rattle.std.specs.Int.{w128}
use Rattle.std.proofs.lemmas.Int.{to_z-of_z}
use Rattle.poll_book.specs.declared.rows.PointRow.{PointRow}
use Rattle.office_core.specs.Registers.{registers_for}
use Rattle.office_core.specs.Orders as order
use Rattle.office_core.proofs.Ordering.{no_setting, no_registers, no_number}
use Rattle.office_core.proofs.orders.place_order.Goals as goal

pub returns-in_default-clause-outcome : goal.returns-in_default-clause-outcome
returns-in_default-clause-outcome c =
    c.refused.ensures.outcome c.args.orders ∙ ap (λ o. order.ordered c.args.orders (order.ordering_of c.args.orders o c.args.value)) (sym c.in_default.is)

pub returns-in_default-role : goal.returns-in_default-role
returns-in_default-role c =
    let orders = c.args.orders in
    let is = ap (λ (o : Option PointRow). order.ordering_of orders o c.args.value) c.in-Some.is ∙ no_setting orders c.in-Some.known c.args.value c.in_default-role.not-Setting in
    record {
      outcome = c.refused-in_default-role.ensures.outcome orders ∙ ap (order.ordered orders) (sym is);
      row = c.refused-in_default-role.ensures.row ∙ ap (order.ordering_row orders) (sym is);
    }

pub returns-in_default-registers_for-clause-outcome : goal.returns-in_default-registers_for-clause-outcome
returns-in_default-registers_for-clause-outcome c =
    let orders = c.args.orders in
    let is = ap (λ (o : Option PointRow). order.ordering_of orders o c.args.value) c.in-Some.is
    ∙ no_registers orders c.in-Some.known c.args.value c.in-Setting.is (sym c.in_default-registers_for.is ∙ c.registers_for.ensures ∙ ap (registers_for c.in-Some.known.point) (to_z-of_z w128 c.args.value c.ranges.value)) in
    c.refused-in_default-registers_for.ensures.outcome orders ∙ ap (order.ordered orders) (sym is)

pub returns-then-orders-ge-MOST_KEPT-clause-outcome : goal.returns-then-orders-ge-MOST_KEPT-clause-outcome
returns-then-orders-ge-MOST_KEPT-clause-outcome c =
    let orders = c.args.orders in
    let is = ap (λ (o : Option PointRow). order.ordering_of orders o c.args.value) c.in-Some.is
    ∙ no_number orders c.in-Some.known c.args.value c.in-Some-registers_for.registers c.in-Setting.is (sym c.in-Some-registers_for.is ∙ c.registers_for.ensures ∙ ap (registers_for c.in-Some.known.point) (to_z-of_z w128 c.args.value c.ranges.value)) c.if-orders-ge-MOST_KEPT.true in
    c.refused-then-orders-ge-MOST_KEPT.ensures.outcome orders ∙ ap (order.ordered orders) (sym is)
