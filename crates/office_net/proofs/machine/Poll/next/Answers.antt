use Rattle.std.proofs.Common.{[], ◌∷◌, ◌∙◌, arith, subst}
use Rattle.office_net.specs.Stages.{GoesOn, as_list}
use Rattle.office_net.proofs.Called.{err_so}
use Rattle.office_net.proofs.Joining.{then_on, then_breaks}
use Rattle.office_core.proofs.Proceeding.{along_then}
use Rattle.office_net.proofs.OneRound.{same_then, turns_same}
use Rattle.office_net.proofs.machine.Poll.next.Goals as goal

pub returns-in_err-query-clause-goes : goal.returns-in_err-query-clause-goes
returns-in_err-query-clause-goes g c = λ clean.
    err_so c.from_residual.result _ _ c.in_err-query.field-0.0 c.from_residual.ensures.1
    (then_breaks c.args.office.now c.loop-self.office c.next_turn.new.office c.args.self.now c.loop-self.self c.next_turn.new.self [] [] [] [] [] c.in_err-query.field-0.0
    (c.loop-self.invariant.goes (c.next_turn.ensures.accounts.2 clean)) (c.in_err-query.ensures.goes clean))

pub returns-in-Some-clause-goes : goal.returns-in-Some-clause-goes
returns-in-Some-clause-goes g c = λ clean.
    then_on c.args.office.now c.loop-self.office c.next_turn.new.office c.args.self.now c.loop-self.self c.next_turn.new.self [] [] [] (c.in-Some.query ∷ [])
    (c.loop-self.invariant.goes (c.next_turn.ensures.accounts.2 clean))
    (subst (λ o. GoesOn c.loop-self.office c.loop-self.self c.next_turn.new.office c.next_turn.new.self [] (as_list o)) c.in-Some.is (c.in_ok-query.ensures.goes clean))

pub loop-self-preserved : goal.loop-self-preserved
loop-self-preserved g c = record {
  goes = λ clean.
      then_on c.args.office.now c.loop-self.office c.next_turn.new.office c.args.self.now c.loop-self.self c.next_turn.new.self [] [] [] []
      (c.loop-self.invariant.goes (c.next_turn.ensures.accounts.2 clean))
      (subst (λ o. GoesOn c.loop-self.office c.loop-self.self c.next_turn.new.office c.next_turn.new.self [] (as_list o)) c.in_default.is (c.in_ok-query.ensures.goes clean));
  along = along_then c.args.office.now c.loop-self.office c.next_turn.new.office c.loop-self.invariant.along (turns_same c.args.self.now c.loop-self.self c.loop-self.office c.next_turn.new.office c.loop-self.invariant.same c.next_turn.ensures.along);
  same = same_then c.args.self.now c.loop-self.self c.next_turn.new.self c.loop-self.invariant.same c.next_turn.ensures.same;
  counted = omega (arith, c.loop-self.invariant.counted, c.next_turn.ensures.accounts.1);
  clean = λ clean. c.loop-self.invariant.clean (c.next_turn.ensures.accounts.2 clean);
  left = omega (arith, c.loop-self.invariant.left, c.in_ok-query.ensures.left);
  taken = c.next_turn.ensures.taken ∙ c.loop-self.invariant.taken;
}

pub returns-in_err-query-clause-along : goal.returns-in_err-query-clause-along
returns-in_err-query-clause-along g c = along_then c.args.office.now c.loop-self.office c.next_turn.new.office c.loop-self.invariant.along
    (turns_same c.args.self.now c.loop-self.self c.loop-self.office c.next_turn.new.office c.loop-self.invariant.same c.next_turn.ensures.along)

pub returns-in-Some-clause-along : goal.returns-in-Some-clause-along
returns-in-Some-clause-along g c = along_then c.args.office.now c.loop-self.office c.next_turn.new.office c.loop-self.invariant.along
    (turns_same c.args.self.now c.loop-self.self c.loop-self.office c.next_turn.new.office c.loop-self.invariant.same c.next_turn.ensures.along)
