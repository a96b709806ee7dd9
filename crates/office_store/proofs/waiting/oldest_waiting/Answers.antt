use Rattle.std.proofs.Common.{◌≡◌, ◌∙◌, Bool, Err, Global, IfOk, IfSome, IsSome, IsSomeAnd, List, None, Ok, Option, Result, Some, Vec, ap, find, map, option_map, refl, subst, sym, ℕ}
use Rattle.std.proofs.lemmas.List.{with_items_is}
use Rattle.sqlite.specs.Held.{state}
use Rattle.poll_book.specs.declared.rows.PointRow.{PointRow}
use Rattle.poll_book.specs.declared.rows.Setting.{Setting}
use Rattle.poll_book.specs.declared.rows.SettingRow.{SettingRow}
use Rattle.poll_book.specs.Orders.{as_setting, is_of, oldest_waiting, point_at}
use Rattle.office_store.specs.declared.waiting.WaitingOrder.{WaitingOrder}
use Rattle.office_store.specs.Waiting.{AreKnown, AreOfTheirDevices, AreThose, entry_of}
use Rattle.office_store.proofs.Keeping.{keeps_then}
use Rattle.office_store.proofs.Noting.{oldest_is}
use Rattle.office_store.proofs.waiting.oldest_waiting.Goals as goal

told : {E : Type 0} (r : Result (Option SettingRow) E) (one other : Option (ℕ × Setting)) → one ≡ other → IfOk r (λ found. option_map as_setting found ≡ one) → IfOk r (λ found. option_map as_setting found ≡ other)
told (Ok found) one other same is = is ∙ same
told (Err e) one other same is = tt

test : List PointRow → List ℕ → ℕ × Setting → Bool
test points device row = is_of device (point_at points row.1.point)

pub returns-clause-value : goal.returns-clause-value
unfolding test
returns-clause-value g c clean kept held =
    let before = c.first_of-found.ensures.looked.keeps.clean clean in
    let all = c.in_ok-orders.ensures.value before kept (rw c.take.ensures.value held) in
    let holds = c.those_of.ensures.keeps.holds kept (λ was_clean opened. (held was_clean).0 opened) in
    let passes = test kept.points c.args.device.now in
    let lent = c.deref_mut.ensures.value in
    let same = ap (λ (orders : List WaitingOrder). find passes (map entry_of orders)) lent ∙ ap (find passes) all.0.1 ∙ sym (oldest_is kept.points c.args.device.now kept.settings) in
    told c.first_of-found.result (find passes (map entry_of c.deref_mut.result.now)) (oldest_waiting kept.points c.args.device.now kept.settings) same
    (c.first_of-found.ensures.value clean kept holds (subst (AreOfTheirDevices kept.points) (sym lent) all.1))

pub returns-clause-same : goal.returns-clause-same
returns-clause-same g c kept held clean =
    let looked = c.first_of-found.ensures.looked in
    let all = c.in_ok-orders.ensures.value (looked.keeps.clean clean) kept (rw c.take.ensures.value held) in
    let holds = c.those_of.ensures.keeps.holds kept (λ was_clean opened. (held was_clean).0 opened) in
    let lent = c.deref_mut.ensures.value in
    let those = looked.same ∙ ap (map entry_of) lent ∙ all.0.1 in
    let known = looked.known clean kept holds (subst (AreOfTheirDevices kept.points) (sym lent) all.1) in
    let back = with_items_is c.in_ok-orders.orders c.first_of-found.new.orders (c.first_of-found.auto.orders ∙ c.deref_mut.ensures.len) in
    (looked.keeps.holds kept holds clean, subst (λ (orders : List WaitingOrder). AreThose kept.settings (map entry_of orders) × AreOfTheirDevices kept.points orders) (sym back) ((all.0.0, those), known))

are_some : (waiting : Option (Vec WaitingOrder Global)) → IsSomeAnd waiting (λ orders. AreKnown orders.items) → IsSome waiting
are_some None all = absurd all
are_some (Some orders) all = refl

known_ones : {E : Type 0} (waiting : Option (Vec WaitingOrder Global)) (orders : Vec WaitingOrder Global) (made : Result (Vec WaitingOrder Global) E) → made ≡ Ok orders → IsSomeAnd waiting (λ read. AreKnown read.items) → IfSome waiting (λ read. made ≡ Ok read) → AreKnown orders.items
known_ones None orders made is all same = absurd all
known_ones (Some read) orders made is all same = let one : read ≡ orders = cc in subst (λ (v : Vec WaitingOrder Global). AreKnown v.items) one all

pub returns-in_err-orders-clause-once : goal.returns-in_err-orders-clause-once
returns-in_err-orders-clause-once g c all = c.those_of.ensures.once (are_some c.take.result (rw c.take.ensures.value all))

pub returns-clause-once : goal.returns-clause-once
returns-clause-once g c all =
    let taken : IsSomeAnd c.take.result (λ orders. AreKnown orders.items) = rw c.take.ensures.value all in
    let known = known_ones c.take.result c.in_ok-orders.orders c.those_of.result c.in_ok-orders.was taken c.those_of.ensures.same in
    c.first_of-found.ensures.once (subst AreKnown (sym c.deref_mut.ensures.value) known) ∙ c.those_of.ensures.once (are_some c.take.result taken)

pub returns-clause-keeps : goal.returns-clause-keeps
returns-clause-keeps g c =
    keeps_then (state g.S.Store c.args.connection.now) (state g.S.Store c.those_of.new.connection) (state g.S.Store c.first_of-found.new.connection) c.those_of.ensures.keeps c.first_of-found.ensures.looked.keeps
