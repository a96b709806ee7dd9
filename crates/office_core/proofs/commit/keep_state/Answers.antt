use Rattle.std.proofs.Common.{◌≡◌, ◌⊎◌, ◌∙◌, Some, false, is_err, sym, subst, ap}
use Rattle.std.specs.Prelude.{IfSome, MatchResult}
use Rattle.poll_book.specs.Changes.{IsNew, applied}
use Rattle.poll_book.specs.Orders.{is_waiting, setting_at}
use Rattle.poll_book.specs.Tables.{Tables}
use Rattle.office_core.specs.Orders.{waiting_at}
use Rattle.office_core.specs.Keeping.{with_state}
use Rattle.office_core.proofs.Newness.{new_state, applied_state, left_told, left_within, waiting_there}
use Rattle.office_core.proofs.commit.keep_state.Goals as goal

pub returns-clause-leaves : goal.returns-clause-leaves
returns-clause-leaves g c clean kept h counted left m =
    let may = g.K.Neighbours.may_leave c.args.keeper.now in
    let may' = g.K.Neighbours.may_leave c.waiting_setting.new.keeper in
    let order = c.args.order in
    let state = c.in-Some.state in
    let setting = c.in-Some-2.setting in
    let value : Some setting ≡ waiting_at (setting_at kept.settings order) = sym c.in-Some-2.is ∙ c.in_ok-setting.ensures.value (c.write.ensures.clean clean) kept h in
    let there = waiting_there (setting_at kept.settings order) setting value in
    let settled : is_waiting state ≡ false = subst (λ o. IfSome o (λ s. is_waiting s ≡ false)) c.in-Some.is c.requires in
    let is : applied c.state_change.result kept ≡ with_state order c.args.state kept =
    ap (λ x. applied x kept) c.state_change.ensures ∙ applied_state order setting state kept there.0 there.1 ∙ ap (λ o. with_state order o kept) (sym c.in-Some.is) in
    left_within may may' kept (with_state order c.args.state kept) (is_err c.write.result) (c.waiting_setting.ensures.leaves (c.write.ensures.clean clean)) left
    (left_told may' kept (with_state order c.args.state kept) left c.write.result
    (subst (λ (t : Tables). MatchResult c.write.result (λ _. left ≡ t) (λ _. may' left ⊎ (left ≡ t))) is
    (c.write.ensures.leaves clean kept (c.waiting_setting.ensures.same kept h)
    (subst (λ x. IsNew x kept) (sym c.state_change.ensures) (new_state order setting state kept there.0 there.1 settled counted)) left m)))

pub returns-clause-kept : goal.returns-clause-kept
returns-clause-kept g c clean kept h counted =
    let order = c.args.order in
    let state = c.in-Some.state in
    let setting = c.in-Some-2.setting in
    let value : Some setting ≡ waiting_at (setting_at kept.settings order) = sym c.in-Some-2.is ∙ c.in_ok-setting.ensures.value (c.write.ensures.clean clean) kept h in
    let there = waiting_there (setting_at kept.settings order) setting value in
    let settled : is_waiting state ≡ false = subst (λ o. IfSome o (λ s. is_waiting s ≡ false)) c.in-Some.is c.requires in
    let is : applied c.state_change.result kept ≡ with_state order c.args.state kept =
    ap (λ x. applied x kept) c.state_change.ensures ∙ applied_state order setting state kept there.0 there.1 ∙ ap (λ o. with_state order o kept) (sym c.in-Some.is) in
    subst (λ (t : Tables). MatchResult c.write.result (λ _. g.K.Neighbours.holds c.write.new.keeper t) (λ _. g.K.Neighbours.holds c.write.new.keeper kept)) is
    (c.write.ensures.kept clean kept (c.waiting_setting.ensures.same kept h)
    (subst (λ x. IsNew x kept) (sym c.state_change.ensures) (new_state order setting state kept there.0 there.1 settled counted)))
