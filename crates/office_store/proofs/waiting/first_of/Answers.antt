use Rattle.std.proofs.Common.{◌≡◌, ◌∙◌, ◌<◌, ◌≤◌, Bool, List, Some, ap, false, find, length, map, sym, subst, true, ℕ}
use Rattle.std.proofs.lemmas.List.{length-map, take_all}
use Rattle.poll_book.specs.declared.rows.PointRow.{PointRow}
use Rattle.poll_book.specs.declared.rows.Setting.{Setting}
use Rattle.poll_book.specs.declared.rows.SettingRow.{SettingRow}
use Rattle.poll_book.specs.Orders.{as_setting, is_of, point_at}
use Rattle.office_store.specs.declared.waiting.WaitingOrder.{WaitingOrder}
use Rattle.office_store.specs.Waiting.{entry_of}
use Rattle.office_store.proofs.LookedUp.{all_stay, entry_is, its_own, known_so, looked_on}
use Rattle.office_store.proofs.Noting.{first_is, none_more}
use Rattle.office_store.proofs.waiting.first_of.Goals as goal

test : List PointRow → List ℕ → ℕ × Setting → Bool
test points device row = is_of device (point_at points row.1.point)

within_entries : (orders : List WaitingOrder) (i : ℕ) → i < length orders → i < length (map entry_of orders)
within_entries orders i within = subst (λ n. i < n) (sym (length-map orders entry_of)) within

pub returns-in_err-look_up-clause-looked : goal.returns-in_err-look_up-clause-looked
returns-in_err-look_up-clause-looked g c =
    let made = c.look_up.ensures in
    looked_on c.waiting-item.result c.look_up.new.waiting c.loop-waiting.invariant.looked c.loop-waiting-test.true made.keeps made.order made.known

pub returns-in_err-copy_of-clause-looked : goal.returns-in_err-copy_of-clause-looked
returns-in_err-copy_of-clause-looked g c =
    let made = c.look_up.ensures in
    looked_on c.waiting-item.result c.look_up.new.waiting c.loop-waiting.invariant.looked c.loop-waiting-test.true made.keeps made.order made.known

pub returns-then-is_of-clause-looked : goal.returns-then-is_of-clause-looked
returns-then-is_of-clause-looked g c =
    let made = c.look_up.ensures in
    looked_on c.waiting-item.result c.look_up.new.waiting c.loop-waiting.invariant.looked c.loop-waiting-test.true made.keeps made.order made.known

pub returns-then-is_of-clause-value : goal.returns-then-is_of-clause-value
unfolding test
returns-then-is_of-clause-value g c clean kept holds all =
    let was = c.loop-waiting.invariant in
    let made = c.look_up.ensures in
    let before = made.keeps.clean clean in
    let first = c.args.orders.now in
    let now = c.loop-waiting.orders in
    let i = c.loop-waiting.waiting-index in
    let d = c.waiting-item.result in
    let passes = test kept.points c.args.device.now in
    let own = its_own first now was.looked.same i d c.loop-waiting-test.true kept.points (was.looked.known before kept holds all) in
    let found = c.in_ok-look_up.ensures.ok clean kept (was.looked.keeps.holds kept holds) own in
    let is = sym (c.is_of.ensures kept.points found) ∙ c.if-is_of.true in
    let here = entry_is first now was.looked.same i d c.loop-waiting-test.true ∙ ap as_setting (sym made.order) in
    let first_one = first_is passes (map entry_of first) i (entry_of d) (within_entries first i c.loop-waiting-test.true) (was.none before kept holds all) (subst (λ entry. passes entry ≡ true) (sym here) is) in
    ap (λ (order : SettingRow). Some (as_setting order)) c.in_ok-copy_of.ensures ∙ ap Some (sym here) ∙ sym first_one

pub loop-waiting-preserved : goal.loop-waiting-preserved
unfolding test
loop-waiting-preserved g c =
    let was = c.loop-waiting.invariant in
    let made = c.look_up.ensures in
    let first = c.args.orders.now in
    let now = c.loop-waiting.orders in
    let i = c.loop-waiting.waiting-index in
    let d = c.waiting-item.result in
    record {
      idle = made.idle;
      looked = looked_on d c.look_up.new.waiting was.looked c.loop-waiting-test.true made.keeps made.order made.known;
      none = λ clean kept holds all.
          let before = made.keeps.clean clean in
          let passes = test kept.points c.args.device.now in
          let own = its_own first now was.looked.same i d c.loop-waiting-test.true kept.points (was.looked.known before kept holds all) in
          let found = c.in_ok-look_up.ensures.ok clean kept (was.looked.keeps.holds kept holds) own in
          let fails = sym (c.is_of.ensures kept.points found) ∙ c.if-is_of.false in
          let here = entry_is first now was.looked.same i d c.loop-waiting-test.true ∙ ap as_setting (sym made.order) in
          none_more passes (map entry_of first) i (entry_of d) (within_entries first i c.loop-waiting-test.true) (was.none before kept holds all) (subst (λ entry. passes entry ≡ false) (sym here) fails);
      once = λ all.
          let still = was.once all in
          let stays = made.once (known_so first now was.looked.same i d c.loop-waiting-test.true all still.1) in
          (stays.0 ∙ still.0, all_stay first now i d c.look_up.new.waiting still.1 stays.1);
    }

pub returns-clause-value : goal.returns-clause-value
unfolding test
returns-clause-value g c clean kept holds all =
    let was = c.loop-waiting.invariant in
    let entries = map entry_of c.args.orders.now in
    let none_left = subst (λ n. n ≤ c.loop-waiting.waiting-index) (sym (length-map c.args.orders.now entry_of)) c.loop-waiting-test.false in
    let whole = take_all c.loop-waiting.waiting-index entries none_left in
    sym (ap (find (test kept.points c.args.device.now)) (sym whole) ∙ was.none clean kept holds all)
