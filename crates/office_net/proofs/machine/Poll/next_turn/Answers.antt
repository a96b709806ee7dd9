use Rattle.std.proofs.Common.{◌++◌, ◌∷◌, [], ◌∙◌, ap, refl, subst, sym, take}
use Rattle.std.proofs.lemmas.List.{take_more}
use Rattle.office_core.specs.declared.event.EventAnswer.TheVariants.{Query}
use Rattle.office_core.specs.Following.{Follows, MayLeave}
use Rattle.office_net.specs.Turning.{Turns}
use Rattle.office_net.specs.Faults.{fault_by}
use Rattle.office_net.proofs.Called.{err_so}
use Rattle.office_net.proofs.Breaking.{turn_breaks}
use Rattle.office_net.specs.Kinds.{TurnIn}
use Rattle.office_net.specs.Moves.{turn_of}
use Rattle.office_net.proofs.Moving.{IsNextJob, asked_on, passed_on}
use Rattle.office_core.proofs.Proceeding.{did, still}
use Rattle.office_net.proofs.Proceeding.{turn_is, turn_missed}
use Rattle.office_net.proofs.machine.Poll.next_turn.Goals as goal

pub returns-in-Some-clause-goes : goal.returns-in-Some-clause-goes
returns-in-Some-clause-goes g c = λ clean.
    let old = c.args.office.now in
    let new = c.turn.new.office in
    let poll = c.args.self.now in
    let job = c.index.result.now in
    let next : IsNextJob poll job = take_more poll.jobs.items poll.turned job c.requires.left ∙ ap (λ e. take poll.turned poll.jobs.items ++ e ∷ []) (sym c.index.ensures) in
    let turned = subst (Turns (Follows old) (Follows new) (MayLeave old) (MayLeave new) poll.conn poll.slot job) c.in-Some.is (c.in_ok-query.ensures.turned clean) in
    let asked = c.note_query.ensures.asked in
    asked_on old new poll c.note_query.new.self job c.in-Some.query next c.requires.room turned.0 turned.1
    (record { same = record { conn = asked.same.conn; slot = asked.same.slot; most = asked.same.most; jobs = asked.same.jobs }; turned = asked.turned; first = asked.first; waiting = asked.waiting; round = asked.round })

pub returns-in-None-clause-goes : goal.returns-in-None-clause-goes
returns-in-None-clause-goes g c = λ clean.
    let old = c.args.office.now in
    let new = c.turn.new.office in
    let poll = c.args.self.now in
    let job = c.index.result.now in
    let next : IsNextJob poll job = take_more poll.jobs.items poll.turned job c.requires.left ∙ ap (λ e. take poll.turned poll.jobs.items ++ e ∷ []) (sym c.index.ensures) in
    let turned = subst (Turns (Follows old) (Follows new) (MayLeave old) (MayLeave new) poll.conn poll.slot job) c.in-None.is (c.in_ok-query.ensures.turned clean) in
    let passed = c.pass.ensures.passed in
    passed_on old new poll c.pass.new.self job next turned.0 turned.1
    (record { same = record { conn = passed.same.conn; slot = passed.same.slot; most = passed.same.most; jobs = passed.same.jobs }; turned = passed.turned; first = passed.first; waiting = passed.waiting; round = passed.round })

pub returns-in_err-query-clause-goes : goal.returns-in_err-query-clause-goes
returns-in_err-query-clause-goes g c = λ clean.
    let old = c.args.office.now in
    let new = c.turn.new.office in
    let poll = c.args.self.now in
    let job = c.index.result.now in
    let next : IsNextJob poll job = take_more poll.jobs.items poll.turned job c.requires.left ∙ ap (λ e. take poll.turned poll.jobs.items ++ e ∷ []) (sym c.index.ensures) in
    let e = c.in_err-query.field-0.0 in
    err_so c.from_residual.result _ _ (fault_by e) c.from_residual.ensures.1
    (turn_breaks old new poll _ job e (fault_by e) next
    (λ start moves after. record { conn = after.conn; slot = after.slot; most = after.most; jobs = after.jobs; turned = after.turned; run = after.run; counts = after.counts; waiting = after.waiting; first = after.first; made = after.made })
    (c.in_err-query.ensures.turned clean) refl)

pub returns-in-Some-clause-along : goal.returns-in-Some-clause-along
returns-in-Some-clause-along g c = λ clean.
    let old = c.args.office.now in
    let new = c.turn.new.office in
    let poll = c.args.self.now in
    let job = c.index.result.now in
    let turned = subst (Turns (Follows old) (Follows new) (MayLeave old) (MayLeave new) poll.conn poll.slot job) c.in-Some.is (c.in_ok-query.ensures.turned clean) in (
      c.turn.ensures.accounts.2 clean,
      did (TurnIn poll) (Follows old) (Follows new) (MayLeave old) (MayLeave new) (λ now. turn_of poll.conn poll.slot now job) (Query c.in-Some.query)
          (λ now stood. (job, turn_is poll.conn poll.slot now job (turned.0 now stood))) turned.1,
    )

pub returns-in-None-clause-along : goal.returns-in-None-clause-along
returns-in-None-clause-along g c = λ clean.
    let old = c.args.office.now in
    let new = c.turn.new.office in
    let poll = c.args.self.now in
    let turned = subst (Turns (Follows old) (Follows new) (MayLeave old) (MayLeave new) poll.conn poll.slot c.index.result.now) c.in-None.is (c.in_ok-query.ensures.turned clean) in
    (c.turn.ensures.accounts.2 clean, still (TurnIn poll) (Follows old) (Follows new) (MayLeave old) (MayLeave new) turned.1)

pub returns-in_err-query-clause-along : goal.returns-in_err-query-clause-along
returns-in_err-query-clause-along g c = λ clean.
    let old = c.args.office.now in
    let new = c.turn.new.office in
    let poll = c.args.self.now in (
      c.turn.ensures.accounts.2 clean,
      turn_missed (TurnIn poll) (Follows old) (Follows new) (MayLeave old) (MayLeave new) poll.conn poll.slot c.index.result.now c.in_err-query.field-0.0
          (λ now event turn. (c.index.result.now, turn)) (c.in_err-query.ensures.turned clean),
    )
