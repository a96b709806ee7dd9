use Rattle.std.proofs.Common.{sym, ◌∙◌, refl}
use Rattle.office_core.specs.declared.event.EventAnswer.TheVariants.{Arrived, Refused}
use Rattle.office_core.specs.Messages.{arriving}
use Rattle.office_core.specs.Following.{Follows, MayLeave}
use Rattle.office_net.specs.Kinds.{HearsIn}
use Rattle.office_net.proofs.Breaking.{frame_breaks}
use Rattle.office_net.proofs.Moving.{came_on}
use Rattle.office_core.proofs.Proceeding.{did, missed}
use Rattle.office_net.proofs.machine.Poll.take.Goals as goal

pub returns-in-Ok-clause-goes : goal.returns-in-Ok-clause-goes
returns-in-Ok-clause-goes g c = λ clean.
    came_on c.args.office.now c.arrive.new.self c.args.self.now c.note_arrival.new.self c.args.frame.now (Arrived c.in-Ok.arrival)
    c.requires.waits (c.in-Ok.ensures.came clean refl) c.note_arrival.ensures.took

pub returns-else-is_store-clause-goes : goal.returns-else-is_store-clause-goes
returns-else-is_store-clause-goes g c = λ clean.
    came_on c.args.office.now c.arrive.new.self c.args.self.now c.note_refusal.new.self c.args.frame.now (Refused c.in-Err.error)
    c.requires.waits (c.in-Err.ensures.came clean (sym c.is_store.ensures ∙ c.if-is_store.false)) (c.note_refusal.ensures.took c.in-Err.error c.args.frame.now.transaction)

pub returns-then-is_store-clause-goes : goal.returns-then-is_store-clause-goes
returns-then-is_store-clause-goes g c = λ clean.
    frame_breaks c.args.office.now c.arrive.new.self c.args.self.now c.args.frame.now c.in-Err.error c.from.result
    (c.in-Err.ensures.went clean) c.from.ensures (sym c.is_store.ensures ∙ c.if-is_store.true)

pub returns-in-Ok-clause-along : goal.returns-in-Ok-clause-along
returns-in-Ok-clause-along g c = λ clean.
    let old = c.args.office.now in
    let new = c.arrive.new.self in (
      c.arrive.ensures.accounts.2 clean,
      did (HearsIn c.args.self.now c.args.frame.now) (Follows old) (Follows new) (MayLeave old) (MayLeave new) (λ now. arriving now c.args.self.now.conn c.args.frame.now) (Arrived c.in-Ok.arrival)
          (λ now stood. refl) (c.in-Ok.ensures.came clean refl),
    )

pub returns-else-is_store-clause-along : goal.returns-else-is_store-clause-along
returns-else-is_store-clause-along g c = λ clean.
    let old = c.args.office.now in
    let new = c.arrive.new.self in (
      c.arrive.ensures.accounts.2 clean,
      did (HearsIn c.args.self.now c.args.frame.now) (Follows old) (Follows new) (MayLeave old) (MayLeave new) (λ now. arriving now c.args.self.now.conn c.args.frame.now) (Refused c.in-Err.error)
          (λ now stood. refl) (c.in-Err.ensures.came clean (sym c.is_store.ensures ∙ c.if-is_store.false)),
    )

pub returns-then-is_store-clause-along : goal.returns-then-is_store-clause-along
returns-then-is_store-clause-along g c = λ clean.
    let old = c.args.office.now in
    let new = c.arrive.new.self in (
      c.arrive.ensures.accounts.2 clean,
      missed (HearsIn c.args.self.now c.args.frame.now) (Follows old) (Follows new) (MayLeave old) (MayLeave new) (λ now. arriving now c.args.self.now.conn c.args.frame.now) (Refused c.in-Err.error)
          (λ now stood. refl) (c.in-Err.ensures.went clean),
    )
