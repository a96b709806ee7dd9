use Rattle.std.proofs.Common.{◌≡◌, ℕ, ◌-◌, take, drop, refl, sym, subst, arith}
use Rattle.std.specs.Prelude.{string_bytes}
use Rattle.office_core.specs.History.{points}
use Rattle.office_core.proofs.Proceeding.{along_still, along_then}
use Rattle.office_net.proofs.Querying.{still_follows}
use Rattle.run_callers.specs.Pages.{AddsPoints}
use Rattle.run_callers.proofs.Pages.{list_more, list_whole, stands_there}
use Rattle.run_callers.proofs.showing.Showing.push_list.Goals as goal

pub loop-at-init : goal.loop-at-init
loop-at-init g c =
    let showing = c.args.self.now in
    let text = string_bytes c.args.text.now in
    let none : showing.next - showing.next ≡ 0 = omega arith in (
      along_still c.args.office.now,
      omega arith,
      λ clean now follows. subst (λ (n : ℕ). AddsPoints now showing.slots (take n (drop showing.next (points now))) text text) (sym none) refl,
    )

pub loop-at-preserved : goal.loop-at-preserved
loop-at-preserved g c =
    let showing = c.args.self.now in
    let so_far = c.loop-at.invariant in (
      along_then c.args.office.now c.loop-at.office c.push_json.new.office so_far.0 c.push_json.ensures.along,
      omega (arith, so_far.1),
      λ clean now follows.
          let before = still_follows c.loop-at.office c.push_json.new.office c.push_json.ensures.along clean in
          let here = ((still_follows c.args.office.now c.loop-at.office so_far.0 before.0).1 now follows).0 in
          let is = sym (c.in-Some.ensures now here) in
          list_more now showing.slots (points now) showing.next c.loop-at.at so_far.1 c.in-Some.row (string_bytes c.args.text.now) (string_bytes c.loop-at.text) (string_bytes c.push_json.new.text)
          is (so_far.2 before.0 now follows) (c.in_ok-push_json.ensures.adds clean now here (stands_there (points now) c.loop-at.at c.in-Some.row is)),
    )

pub returns-in_err-push_json-clause-along : goal.returns-in_err-push_json-clause-along
returns-in_err-push_json-clause-along g c =
    along_then c.args.office.now c.loop-at.office c.push_json.new.office c.loop-at.invariant.0 c.push_json.ensures.along

pub returns-in_default-clause-adds : goal.returns-in_default-clause-adds
returns-in_default-clause-adds g c = λ clean now follows.
    let showing = c.args.self.now in
    let so_far = c.loop-at.invariant in
    let here = ((still_follows c.args.office.now c.loop-at.office so_far.0 clean).1 now follows).0 in
    list_whole now showing.slots (points now) showing.next c.loop-at.at so_far.1 (string_bytes c.args.text.now) (string_bytes c.loop-at.text) (sym (c.in_default.ensures now here)) (so_far.2 clean now follows)

pub returns-clause-adds : goal.returns-clause-adds
returns-clause-adds g c = λ clean now follows.
    let so_far = c.loop-at.invariant in
    (_, so_far.2 clean now follows, omega (arith, so_far.1))
