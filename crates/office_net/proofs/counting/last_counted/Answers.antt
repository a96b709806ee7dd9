use Rattle.std.proofs.Common.{◌≡◌, ◌∙◌, ◌<◌, rules, inl, inr, ℕ, ◌-◌, refl, sym, subst}
use Rattle.office_core.specs.Errors.{IsOfStore}
use Rattle.office_core.specs.Offices.{CauseFrom}
use Rattle.office_net.specs.Counting.{IsCountedBetween}
use Rattle.office_net.proofs.Called.{caused_so}
use Rattle.office_net.proofs.Causing.{counts_then, of_store_since}
use Rattle.office_net.proofs.Learning.{learnt_along, learnt_so, learnt_then}
use Rattle.office_core.proofs.Proceeding.{along_then}
use Rattle.office_net.proofs.counting.last_counted.Goals as goal
use Rattle.office_net.proofs.counting.last_counted.Goals.{then-not-is_ahead-via-then-not-is_ahead, then-not-is_ahead-via-else-not-is_ahead+then-after-eq4294967295}

pub loop-high-init : goal.loop-high-init
loop-high-init g c = (
  search rules,
  search rules,
  learnt_so c.args.office.now c.is_counted_after.new.office _ _ (λ now told. (sym told ∙ c.if-not-is_ahead.false, inr refl)) c.in_ok-is_ahead.ensures.value,
  (c.is_counted_after.ensures.accounts.1, c.is_counted_after.ensures.accounts.2),
)

pub loop-high-preserved : goal.loop-high-preserved
loop-high-preserved g c =
    let told = learnt_then c.args.office.now c.loop-high.office c.is_counted_after-in-loop-high.new.office _ _ c.loop-high.invariant.2 c.in_ok-is_later.ensures.value in (
      search rules,
      search rules,
      learnt_so c.args.office.now c.is_counted_after-in-loop-high.new.office _ _ (λ now both. (both.0.0, inl (sym both.1 ∙ c.if-is_later.false))) told,
      counts_then c.args.office.now c.loop-high.office c.is_counted_after-in-loop-high.new.office c.loop-high.invariant.3
          (c.is_counted_after-in-loop-high.ensures.accounts.1, c.is_counted_after-in-loop-high.ensures.accounts.2),
    )

pub loop-high-preserved-then-is_later : goal.loop-high-preserved-then-is_later
loop-high-preserved-then-is_later g c =
    let told = learnt_then c.args.office.now c.loop-high.office c.is_counted_after-in-loop-high.new.office _ _ c.loop-high.invariant.2 c.in_ok-is_later.ensures.value in (
      search rules,
      search rules,
      learnt_so c.args.office.now c.is_counted_after-in-loop-high.new.office _ _ (λ now both. (sym both.1 ∙ c.if-is_later.true, both.0.1)) told,
      counts_then c.args.office.now c.loop-high.office c.is_counted_after-in-loop-high.new.office c.loop-high.invariant.3
          (c.is_counted_after-in-loop-high.ensures.accounts.1, c.is_counted_after-in-loop-high.ensures.accounts.2),
    )

pub returns-clause-value : goal.returns-clause-value
returns-clause-value g c =
    let low : c.loop-high.low ≡ c.loop-high.high - 1 = search rules in
    let later : c.args.after < c.loop-high.high = search rules in
    learnt_so c.args.office.now c.loop-high.office _ _
    (λ now between. (later, subst (λ (n : ℕ). IsCountedBetween now c.args.number n c.loop-high.high) low between)) c.loop-high.invariant.2

pub returns-clause-along : goal.returns-clause-along
returns-clause-along g c = learnt_along c.args.office.now c.loop-high.office _ c.loop-high.invariant.2

pub returns-in_err-is_later-clause-along : goal.returns-in_err-is_later-clause-along
returns-in_err-is_later-clause-along g c =
    along_then c.args.office.now c.loop-high.office c.is_counted_after-in-loop-high.new.office
    (learnt_along c.args.office.now c.loop-high.office _ c.loop-high.invariant.2) c.is_counted_after-in-loop-high.ensures.along

pub returns-then-not-is_ahead-clause-value : goal.returns-then-not-is_ahead-clause-value
returns-then-not-is_ahead-clause-value g c =
    learnt_so c.args.office.now c.is_counted_after.new.office _ _
    (λ now told. elim c.then-not-is_ahead.branch [
      | then-not-is_ahead-via-then-not-is_ahead w ↦ inl (sym told ∙ w.if-not-is_ahead.true)
      | then-not-is_ahead-via-else-not-is_ahead+then-after-eq4294967295 w ↦ inr w.if-after-eq4294967295.true
    ])
    c.in_ok-is_ahead.ensures.value

pub returns-in_err-is_later-clause-accounts : goal.returns-in_err-is_later-clause-accounts
returns-in_err-is_later-clause-accounts g c =
    let told = c.in_err-is_later.ensures.accounts in
    let old = c.args.office.now in
    let mid = c.loop-high.office in
    let new = c.is_counted_after-in-loop-high.new.office in
    let counts = counts_then old mid new c.loop-high.invariant.3 (told.1, told.2) in (
      caused_so c.from_residual-in_err-is_later.result (IsOfStore (CauseFrom old new)) c.in_err-is_later.field-0.0 c.from_residual-in_err-is_later.ensures.1
          (of_store_since old mid new c.in_err-is_later.field-0.0 c.loop-high.invariant.3.0 told.0),
      counts.0,
      counts.1,
    )
