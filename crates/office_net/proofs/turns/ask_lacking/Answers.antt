use Rattle.std.proofs.Common.{◌∙◌, inr, refl, sym, subst}
use Rattle.office_core.specs.declared.event.EventAnswer.TheVariants.{Refused}
use Rattle.office_core.specs.History.{Ask}
use Rattle.office_core.specs.Following.{Follows, MayLeave}
use Rattle.office_net.specs.Turning.{TurnFails}
use Rattle.office_net.specs.Moves.{turn_of}
use Rattle.office_net.specs.declared.job.LineJob.TheVariants.{Read}
use Rattle.office_core.specs.Offices.{keeper_of}
use Rattle.office_core.proofs.Following.{stays_so}
use Rattle.office_net.proofs.Called.{err_so}
use Rattle.office_net.proofs.Turning.{then_fails}
use Rattle.office_net.proofs.turns.ask_lacking.Goals as goal

pub returns-in_err-ask-clause-turned : goal.returns-in_err-ask-clause-turned
returns-in_err-ask-clause-turned g c = λ clean.
    let old = c.args.office.now in
    let between = c.lacks.new.self in
    let new = c.ask.new.self in
    let device = c.args.device.now in
    let mid : g.K.Neighbours.is_clean (keeper_of between) = subst g.K.Neighbours.is_clean c.ask.ensures.keeper clean in
    let job = Read device c.args.read.now in
    err_so c.from_residual-in_err-ask.result _ (TurnFails (Follows old) (Follows new) (MayLeave old) (MayLeave new) c.args.conn c.args.slot job) c.in_err-ask.field-0.0 c.from_residual-in_err-ask.ensures.1
    (inr (
      (λ now follows. sym (c.in_ok-lacks.ensures.value mid now follows.0) ∙ c.if-not-branch.false),
      then_fails (Follows old) (Follows between) (Follows new) (MayLeave old) (MayLeave between) (MayLeave new)
          (stays_so old between c.lacks.ensures.asked mid) (λ now. turn_of c.args.conn c.args.slot now job) (Ask c.args.conn device c.args.slot c.args.read.now) (Refused c.in_err-ask.field-0.0)
          (λ now follows. refl) (c.in_err-ask.ensures.went clean),
    ))
