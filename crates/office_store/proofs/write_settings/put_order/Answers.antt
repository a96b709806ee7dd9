use Rattle.std.proofs.Common.{inr, sym, subst}
use Rattle.poll_book.specs.Changes.{IsNextOrSettled, with_order}
use Rattle.office_store.proofs.SettingStates.{next_of, settled_of}
use Rattle.office_store.specs.Writing.{Within}
use Rattle.sqlite.specs.Held.{state}
use Rattle.office_store.proofs.write_settings.put_order.Goals as goal

pub returns-in_ok-put_setting-in-Waiting-clause-put : goal.returns-in_ok-put_setting-in-Waiting-clause-put
returns-in_ok-put_setting-in-Waiting-clause-put g c clean base kept within next =
    let is = c.in-Some.is in
    let here = subst (IsNextOrSettled kept.settings) is next in
    let done = c.in_ok-put_setting-in-Waiting.ensures.put clean base kept within (next_of kept.settings c.in-Some.row c.in-Waiting.is here) in
    subst (λ s. Within (state g.S.Store c.put_setting.new.tx.conn.now) base (record kept { settings = with_order s kept.settings })) (sym is) done

pub returns-in_ok-settle-in_default-state : goal.returns-in_ok-settle-in_default-state
returns-in_ok-settle-in_default-state g c = record {
  same_reference = c.settle.ensures.same_reference;
  inside = c.in_ok-settle-in_default-state.ensures.inside;
  opened = λ clean inside. inr (c.in_ok-settle-in_default-state.ensures.opened clean inside);
  kept = c.settle.ensures.kept;
  survives = c.settle.ensures.survives;
  put = λ clean base kept within next.
      let is = c.in-Some.is in
      let here = subst (IsNextOrSettled kept.settings) is next in
      let done = c.in_ok-settle-in_default-state.ensures.put clean base kept _ within (settled_of kept.settings c.in-Some.row c.in_default-state.not-Waiting here) in
      subst (λ s. Within (state g.S.Store c.settle.new.tx.conn.now) base (record kept { settings = with_order s kept.settings })) (sym is) done;
}
